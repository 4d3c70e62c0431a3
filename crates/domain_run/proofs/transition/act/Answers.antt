use Rattle.std.proofs.Common.{sym, ap, subst, ◌∙◌, arith}
use Rattle.std.proofs.lemmas.Grind.{common_steps}
use Rattle.domain_run.specs.declared.transition.Transition.{Transition}
use Rattle.domain_run.specs.private.TaskTable.{task_after, deferred_lag, MayMake}
use Rattle.domain_run.proofs.transition.act.Goals as goal

pub replenish_due-requires-clause-early : goal.replenish_due-requires-clause-early
replenish_due-requires-clause-early c = subst (λ (x : Transition). MayMake c.args.time x c.args.task.now) c.in-Replenish.is c.requires.may

pub replenish_due-requires-clause-sound : goal.replenish_due-requires-clause-sound
replenish_due-requires-clause-sound c = c.requires.sound

pub unblock-requires-clause-early : goal.unblock-requires-clause-early
unblock-requires-clause-early c = subst (λ (x : Transition). MayMake c.args.time x c.args.task.now) c.in-Unblock.is c.requires.may

pub unblock-requires-clause-sound : goal.unblock-requires-clause-sound
unblock-requires-clause-sound c = c.requires.sound

pub run_until-requires-clause-early : goal.run_until-requires-clause-early
run_until-requires-clause-early c = grind (arith, common_steps)

pub run_until-requires-clause-low : goal.run_until-requires-clause-low
run_until-requires-clause-low c = grind (arith, common_steps)

pub run_until-requires-clause-high : goal.run_until-requires-clause-high
run_until-requires-clause-high c = grind (arith, common_steps)

pub run_until-requires-clause-worked : goal.run_until-requires-clause-worked
run_until-requires-clause-worked c = grind (arith, common_steps)

pub run_until-requires-clause-sound : goal.run_until-requires-clause-sound
run_until-requires-clause-sound c = c.requires.sound

pub run_until-requires-clause-running : goal.run_until-requires-clause-running
run_until-requires-clause-running c = grind (arith, common_steps)

pub run_deferring-requires-clause-sound : goal.run_deferring-requires-clause-sound
run_deferring-requires-clause-sound c = c.requires.sound

pub run_deferring-requires-clause-may : goal.run_deferring-requires-clause-may
run_deferring-requires-clause-may c = grind (arith, common_steps)

pub run_deferring-requires-clause-small : goal.run_deferring-requires-clause-small
run_deferring-requires-clause-small c = grind (arith, common_steps)

pub returns-in-RunDeferring-clause-task : goal.returns-in-RunDeferring-clause-task
returns-in-RunDeferring-clause-task c = grind (arith, common_steps)

pub returns-in-RunDeferring-clause-deferring : goal.returns-in-RunDeferring-clause-deferring
returns-in-RunDeferring-clause-deferring c = grind (arith, common_steps)

pub returns-in-RunDeferring-clause-sound : goal.returns-in-RunDeferring-clause-sound
returns-in-RunDeferring-clause-sound c = c.run_deferring.ensures.sound

pub returns-in-Defer-clause-task : goal.returns-in-Defer-clause-task
returns-in-Defer-clause-task c = c.take_lag.ensures.task ∙ ap (λ (x : Transition). task_after c.args.time x c.args.task.now) (sym c.in-Defer.is)

pub returns-in-Defer-clause-deferring : goal.returns-in-Defer-clause-deferring
returns-in-Defer-clause-deferring c = c.take_lag.ensures.lag ∙ ap (λ (x : Transition). deferred_lag c.args.time x c.args.task.now) (sym c.in-Defer.is)

pub returns-in-Defer-clause-sound : goal.returns-in-Defer-clause-sound
returns-in-Defer-clause-sound c = grind (arith, common_steps)

pub returns-in-Replenish-clause-task : goal.returns-in-Replenish-clause-task
returns-in-Replenish-clause-task c = c.replenish_due.ensures.task ∙ ap (λ (x : Transition). task_after c.args.time x c.args.task.now) (sym c.in-Replenish.is)

pub returns-in-Replenish-clause-deferring : goal.returns-in-Replenish-clause-deferring
returns-in-Replenish-clause-deferring c = ap (λ (x : Transition). deferred_lag c.args.time x c.args.task.now) (sym c.in-Replenish.is)

pub returns-in-Replenish-clause-sound : goal.returns-in-Replenish-clause-sound
returns-in-Replenish-clause-sound c = c.replenish_due.ensures.sound

pub returns-in-Settle-clause-task : goal.returns-in-Settle-clause-task
returns-in-Settle-clause-task c = c.settle.ensures.task ∙ ap (λ (x : Transition). task_after c.args.time x c.args.task.now) (sym c.in-Settle.is)

pub returns-in-Settle-clause-deferring : goal.returns-in-Settle-clause-deferring
returns-in-Settle-clause-deferring c = ap (λ (x : Transition). deferred_lag c.args.time x c.args.task.now) (sym c.in-Settle.is)

pub returns-in-Settle-clause-sound : goal.returns-in-Settle-clause-sound
returns-in-Settle-clause-sound c = c.settle.ensures.sound

pub returns-in-Unblock-clause-task : goal.returns-in-Unblock-clause-task
returns-in-Unblock-clause-task c = c.unblock.ensures.task ∙ ap (λ (x : Transition). task_after c.args.time x c.args.task.now) (sym c.in-Unblock.is)

pub returns-in-Unblock-clause-deferring : goal.returns-in-Unblock-clause-deferring
returns-in-Unblock-clause-deferring c = ap (λ (x : Transition). deferred_lag c.args.time x c.args.task.now) (sym c.in-Unblock.is)

pub returns-in-Unblock-clause-sound : goal.returns-in-Unblock-clause-sound
returns-in-Unblock-clause-sound c = c.unblock.ensures.sound

pub returns-in-Run-clause-task : goal.returns-in-Run-clause-task
returns-in-Run-clause-task c = grind (arith, common_steps)

pub returns-in-Run-clause-deferring : goal.returns-in-Run-clause-deferring
returns-in-Run-clause-deferring c = grind (arith, common_steps)

pub returns-in-Run-clause-sound : goal.returns-in-Run-clause-sound
returns-in-Run-clause-sound c = c.run_until.ensures.sound

pub returns-in-TakeBack-clause-task : goal.returns-in-TakeBack-clause-task
returns-in-TakeBack-clause-task c = grind (arith, common_steps)

pub returns-in-TakeBack-clause-deferring : goal.returns-in-TakeBack-clause-deferring
returns-in-TakeBack-clause-deferring c = ap (λ (x : Transition). deferred_lag c.args.time x c.args.task.now) (sym c.in-TakeBack.is)

pub returns-in-TakeBack-clause-sound : goal.returns-in-TakeBack-clause-sound
returns-in-TakeBack-clause-sound c = grind (arith, common_steps)

pub returns-in-Regrade-clause-task : goal.returns-in-Regrade-clause-task
returns-in-Regrade-clause-task c = c.regrade.ensures ∙ ap (λ (x : Transition). task_after c.args.time x c.args.task.now) (sym c.in-Regrade.is)

pub returns-in-Regrade-clause-deferring : goal.returns-in-Regrade-clause-deferring
returns-in-Regrade-clause-deferring c = ap (λ (x : Transition). deferred_lag c.args.time x c.args.task.now) (sym c.in-Regrade.is)

pub returns-in-Regrade-clause-sound : goal.returns-in-Regrade-clause-sound
returns-in-Regrade-clause-sound c = grind (arith, common_steps)

pub returns-in-Release-clause-task : goal.returns-in-Release-clause-task
returns-in-Release-clause-task c = c.release.ensures ∙ ap (λ (x : Transition). task_after c.args.time x c.args.task.now) (sym c.in-Release.is)

pub returns-in-Release-clause-deferring : goal.returns-in-Release-clause-deferring
returns-in-Release-clause-deferring c = ap (λ (x : Transition). deferred_lag c.args.time x c.args.task.now) (sym c.in-Release.is)

pub returns-in-Release-clause-sound : goal.returns-in-Release-clause-sound
returns-in-Release-clause-sound c = grind (arith, common_steps)

pub returns-in-End-clause-task : goal.returns-in-End-clause-task
returns-in-End-clause-task c = c.end.ensures.task ∙ ap (λ (x : Transition). task_after c.args.time x c.args.task.now) (sym c.in-End.is)

pub returns-in-End-clause-deferring : goal.returns-in-End-clause-deferring
returns-in-End-clause-deferring c = ap (λ (x : Transition). deferred_lag c.args.time x c.args.task.now) (sym c.in-End.is)

pub returns-in-End-clause-sound : goal.returns-in-End-clause-sound
returns-in-End-clause-sound c = c.end.ensures.sound

pub returns-in-Depart-clause-task : goal.returns-in-Depart-clause-task
returns-in-Depart-clause-task c = c.depart.ensures ∙ ap (λ (x : Transition). task_after c.args.time x c.args.task.now) (sym c.in-Depart.is)

pub returns-in-Depart-clause-deferring : goal.returns-in-Depart-clause-deferring
returns-in-Depart-clause-deferring c = ap (λ (x : Transition). deferred_lag c.args.time x c.args.task.now) (sym c.in-Depart.is)

pub returns-in-Depart-clause-sound : goal.returns-in-Depart-clause-sound
returns-in-Depart-clause-sound c = grind (arith, common_steps)
