use Rattle.std.proofs.Common.{◌++◌, ◌<◌, length, ap, ◌∙◌, arith}
use Rattle.std.proofs.lemmas.Grind.{common_steps}
use Rattle.task_script.specs.private.Steps.{all_of_phase}
use Rattle.task_script.proofs.StepPlaces.{more_of_phases}
use Rattle.task_script.proofs.steps.written.Goals as goal

pub loop-phase-init : goal.loop-phase-init
loop-phase-init c = c.in_ok-steps.ensures.items

pub loop-phase-preserved : goal.loop-phase-preserved
loop-phase-preserved c =
    let phases = c.args.phases.now in
    let n = c.loop-phase.phase in
    let q = c.index-phases-phase.result in
    let within : n < length phases = grind (arith, common_steps) in
    c.in_ok-add_phase.ensures
    ∙ ap (λ xs. xs ++ all_of_phase q) c.loop-phase.invariant
    ∙ more_of_phases phases n q within c.index-phases-phase.is
