use Rattle.std.proofs.Common.{ℕ, ◌<◌, length, sym, subst, arith}
use Rattle.std.proofs.lemmas.Grind.{common_steps}
use Rattle.task_script.specs.private.Progress.{AreLapsThere}
use Rattle.task_script.proofs.Rounds.{phase_read}
use Rattle.task_script.proofs.Stepping.{index_small, step_within, laps_read, laps_of_phase}
use Rattle.task_script.proofs.progress.laps_here.Goals as goal

pub overflow_add-progress : goal.overflow_add-progress
overflow_add-progress c =
    let small = index_small c.args.script.now c.args.progress c.phases-phases.ensures.within c.requires.stands in
    omega (arith, small)

pub offset_bounds-steps-progress : goal.offset_bounds-steps-progress
offset_bounds-steps-progress c =
    let small = index_small c.args.script.now c.args.progress c.phases-phases.ensures.within c.requires.stands in
    omega (arith, small)

pub bounds-steps-progress : goal.bounds-steps-progress
bounds-steps-progress c =
    let some : 0 < length c.steps-steps.result.now = grind (arith, common_steps) in
    step_within c.args.script.now c.args.progress c.steps-steps.result.now c.requires.stands c.steps-steps.ensures some

pub returns-then-is_empty : goal.returns-then-is_empty
returns-then-is_empty c =
    let s = c.args.script.now in
    let q = c.index-phases-progress.result in
    let at = phase_read s c.args.progress c.phases-phases.result.now q c.requires.stands c.phases-phases.ensures.phases c.index-phases-progress.is in
    laps_of_phase s c.args.progress q c.laps_of.result at c.laps_of.ensures

pub returns-else-is_empty : goal.returns-else-is_empty
returns-else-is_empty c =
    let s = c.args.script.now in
    let p = c.args.progress in
    let some : 0 < length c.steps-steps.result.now = grind (arith, common_steps) in
    let read = laps_read s p c.steps-steps.result.now c.requires.stands c.steps-steps.ensures some c.index-steps-progress.result c.index-steps-progress.is in
    subst (λ (n : ℕ). AreLapsThere s p n) (sym c.laps_of_step.ensures) read
