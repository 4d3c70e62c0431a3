use Rattle.std.proofs.Common.{◌<◌, length, sym, subst, arith}
use Rattle.std.proofs.lemmas.Grind.{common_steps}
use Rattle.task_script.specs.declared.phase.Event.{Event}
use Rattle.task_script.specs.private.Progress.{IsEventThere}
use Rattle.task_script.proofs.Rounds.{phase_read}
use Rattle.task_script.proofs.Stepping.{index_small, step_within, event_read, event_of_phase, is_event}
use Rattle.task_script.proofs.progress.event_here.Goals as goal

pub overflow_add-progress : goal.overflow_add-progress
overflow_add-progress c =
    let small = index_small c.args.script.now c.args.progress c.phases-phases.ensures.within c.requires.stands in
    omega (arith, small)

pub offset_bounds-steps-progress : goal.offset_bounds-steps-progress
offset_bounds-steps-progress c =
    let small = index_small c.args.script.now c.args.progress c.phases-phases.ensures.within c.requires.stands in
    omega (arith, small)

pub bounds-steps-progress : goal.bounds-steps-progress
bounds-steps-progress c =
    let some : 0 < length c.steps-steps.result.now = grind (arith, common_steps) in
    step_within c.args.script.now c.args.progress c.steps-steps.result.now c.requires.stands c.steps-steps.ensures some

pub returns-then-is_empty-clause-value : goal.returns-then-is_empty-clause-value
returns-then-is_empty-clause-value c =
    let s = c.args.script.now in
    let q = c.index-phases-progress.result in
    let at = phase_read s c.args.progress c.phases-phases.result.now q c.requires.stands c.phases-phases.ensures.phases c.index-phases-progress.is in
    event_of_phase s c.args.progress q c.event_in.result at c.event_in.ensures.value

pub returns-else-is_empty-clause-value : goal.returns-else-is_empty-clause-value
returns-else-is_empty-clause-value c =
    let s = c.args.script.now in
    let p = c.args.progress in
    let some : 0 < length c.steps-steps.result.now = grind (arith, common_steps) in
    let read = event_read s p c.steps-steps.result.now c.requires.stands c.steps-steps.ensures some c.index-steps-progress.result c.index-steps-progress.is in
    subst (λ (e : Event). IsEventThere s p e) (sym c.event_of_step.ensures) read

pub returns-else-is_empty-clause-event : goal.returns-else-is_empty-clause-event
returns-else-is_empty-clause-event c =
    let s = c.args.script.now in
    let p = c.args.progress in
    let some : 0 < length c.steps-steps.result.now = grind (arith, common_steps) in
    let read = event_read s p c.steps-steps.result.now c.requires.stands c.steps-steps.ensures some c.index-steps-progress.result c.index-steps-progress.is in
    is_event s p c.event_of_step.result c.phases-phases.ensures.within c.requires.stands (subst (λ (e : Event). IsEventThere s p e) (sym c.event_of_step.ensures) read)
