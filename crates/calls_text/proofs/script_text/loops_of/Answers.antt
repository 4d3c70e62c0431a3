use Rattle.std.proofs.Common.{◌≡◌, ◌<◌, ◌^◌, w64, to_z, pos, arith}
use Rattle.std.proofs.lemmas.Int.{to_z_pos}
use Rattle.std.proofs.lemmas.Grind.{common_steps}
use Rattle.calls_text.specs.private.Reading.{rounds_at}
use Rattle.calls_text.proofs.script_text.loops_of.Goals as goal

pub returns : goal.returns
unfolding rounds_at
returns c =
    let small : c.in_ok-number_within.field-0 < 2 ^ 63 = omega (arith, c.in_ok-number_within.ensures.within.1) in
    let e : to_z w64 c.in_ok-number_within.field-0 ≡ pos c.in_ok-number_within.field-0 = to_z_pos w64 c.in_ok-number_within.field-0 small in
    rw e (record { gives = grind (arith, common_steps); within = c.in_ok-number_within.ensures.within })
