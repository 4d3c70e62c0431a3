use Rattle.std.proofs.Common.{◌<◌, ◌≡◌, length, arith, subst}
use Rattle.std.proofs.lemmas.Grind.{common_steps}
use Rattle.task_script.specs.script.ScriptView.{phase_len}
use Rattle.task_script.proofs.Rounds.{none_behind, one_behind}
use Rattle.task_script.proofs.progress.places_before.Goals as goal

pub loop-index-init : goal.loop-index-init
loop-index-init c = record { places = none_behind c.args.phases.now; few = omega arith }

pub loop-index-preserved : goal.loop-index-preserved
loop-index-preserved c =
    let l = c.loop-index in
    let one = c.places_of-places in
    let q = c.index-phases-index.result in
    let within : l.index < length c.args.phases.now = grind (arith, common_steps) in
    record {
      places = one_behind c.args.phases.now l.index l.places one.result q within (subst (λ r. one.result ≡ phase_len r) c.index-phases-index.is one.ensures.places) l.invariant.places;
      few = omega (arith, l.invariant.few, one.ensures.few);
    }
