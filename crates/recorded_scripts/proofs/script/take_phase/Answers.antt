use Rattle.std.proofs.Common.{◌≡◌, ◌<◌, ◌++◌, ◌∷◌, [], ◌∙◌, length, sym, ap, rules, arith}
use Rattle.std.specs.Prelude.{min}
use Rattle.recorded_scripts.proofs.Steps.{front_is, back_is, phase_is}
use Rattle.recorded_scripts.proofs.script.take_phase.Goals as goal

pub returns-clause-phase : goal.returns-clause-phase
returns-clause-phase c =
    let some : 0 < length c.args.events.now = search rules in
    let n : c.min.result ≡ min (length c.args.events.now) 64 = search rules in
    c.in_ok-push.ensures.items ∙ ap (λ ps. c.args.phases.now.items ++ ps) (sym (phase_is c.args.events.now c.in_ok-from_slice.field-0.items some (c.in_ok-from_slice.ensures.items ∙ c.split_at.ensures.front ∙ front_is c.args.events.now c.min.result n)))

pub returns-clause-rest : goal.returns-clause-rest
returns-clause-rest c =
    let n : c.min.result ≡ min (length c.args.events.now) 64 = search rules in
    c.split_at.ensures.back ∙ back_is c.args.events.now c.min.result n
