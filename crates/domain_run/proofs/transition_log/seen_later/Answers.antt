use Rattle.std.proofs.Common.{sym, ap, ◌∙◌}
use Rattle.domain_run.specs.declared.transition.Transition.{Transition}
use Rattle.domain_run.specs.private.TransitionLog.{entries_after}
use Rattle.domain_run.proofs.transition_log.seen_later.Goals as goal

pub returns-in-Replenish : goal.returns-in-Replenish
returns-in-Replenish c = c.by_replenishment.ensures c.args.before.is_late ∙ sym (ap (λ (transition : Transition). entries_after c.args.time transition c.args.before c.args.task.now) c.in-Replenish.is)

pub returns-in-Unblock : goal.returns-in-Unblock
returns-in-Unblock c = c.by_unblocking.ensures c.args.before.is_late ∙ sym (ap (λ (transition : Transition). entries_after c.args.time transition c.args.before c.args.task.now) c.in-Unblock.is)

pub returns-in-Run : goal.returns-in-Run
returns-in-Run c = c.by_run.ensures c.in-Run.ticks c.in-Run.left c.args.before.condition ∙ sym (ap (λ (transition : Transition). entries_after c.args.time transition c.args.before c.args.task.now) c.in-Run.is)

pub returns-in-RunDeferring : goal.returns-in-RunDeferring
returns-in-RunDeferring c = c.by_run-in-RunDeferring.ensures c.in-RunDeferring.ticks c.in-RunDeferring.left c.args.before.condition ∙ sym (ap (λ (transition : Transition). entries_after c.args.time transition c.args.before c.args.task.now) c.in-RunDeferring.is)
