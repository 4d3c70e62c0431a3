use Rattle.std.proofs.Common.{◌≡◌, ℤ, pos, negsuc, w64, to_z, of_z, arith, ◌∙◌}
use Rattle.std.proofs.lemmas.Int.{to_z-of_z, ints}
use Rattle.task_script.specs.script.Segments.{IsLoops}
use Rattle.rtapp_scenario.specs.Values.{members_of}
use Rattle.rtapp_scenario.proofs.Limits.{script_fits}
use Rattle.rtapp_scenario.proofs.script.script_of.Goals as goal

kept : (z : ℤ) → IsLoops z → to_z w64 (of_z w64 z) ≡ z
kept (pos n) is = to_z-of_z w64 (pos n) (omega (arith, ints, is.1))
kept (negsuc n) is = to_z-of_z w64 (negsuc n) (omega (arith, ints, is))

pub made-requires : goal.made-requires
made-requires c =
    let fits = script_fits (members_of c.args.members.now) c.requires in
    rw (kept c.loops.result c.loops.ensures.within) (record {
      loops = c.loops.ensures.within;
      within = rw (c.loops.ensures.value ∙ c.rounds.ensures.value, c.in_ok-phases.ensures) fits;
    })
