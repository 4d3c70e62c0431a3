use Rattle.std.proofs.Common.{ap, ◌∙◌}
use Rattle.task_script.specs.private.Progress.{events_behind}
use Rattle.task_script.proofs.Rounds.{step_is, step_within, phase_read}
use Rattle.task_script.proofs.progress.step_of.Goals as goal

pub returns-clause-step : goal.returns-clause-step
returns-clause-step c =
    let s = c.args.script.now in
    let p = c.args.progress in
    let q = c.index-phases-at.result in
    let same = c.phases-phases.ensures.phases in
    let at = phase_read s p c.phases-phases.result.now q c.requires.stands same c.index-phases-at.is in
    step_is s p q at c.places_before.result c.step_in.result (c.places_before.ensures.places ∙ ap (λ ps. events_behind ps p.phase 0 0) same) c.step_in.ensures.step

pub returns-clause-within : goal.returns-clause-within
returns-clause-within c =
    let s = c.args.script.now in
    let p = c.args.progress in
    let q = c.index-phases-at.result in
    let same = c.phases-phases.ensures.phases in
    let at = phase_read s p c.phases-phases.result.now q c.requires.stands same c.index-phases-at.is in
    step_within s p q c.requires.stands at c.places_before.result c.step_in.result (c.places_before.ensures.places ∙ ap (λ ps. events_behind ps p.phase 0 0) same) c.step_in.ensures.step
