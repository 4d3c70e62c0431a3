use Rattle.std.proofs.Common.{List, [], sym, subst, ◌∙◌}
use Rattle.std.specs.List.{flat_map}
use Rattle.domain_run.specs.Log.{HasLogged}
use Rattle.domain_run.specs.private.TransitionLog.{logged_of_task}
use Rattle.domain_run.proofs.Due.{none_due, still_each}
use Rattle.domain_run.proofs.Logging.{logs_none}
use Rattle.domain_run.proofs.LoggedWoken.{none_log}
use Rattle.domain_run.proofs.sweep.wake_all.Goals as goal

pub returns-then-not-may_be_due-clause-tasks : goal.returns-then-not-may_be_due-clause-tasks
returns-then-not-may_be_due-clause-tasks c = sym (none_due c.args.time c.args.task_table.now.tasks (c.may_be_due.ensures c.if-not-may_be_due.true))

pub returns-then-not-may_be_due-clause-logged : goal.returns-then-not-may_be_due-clause-logged
returns-then-not-may_be_due-clause-logged c =
    let tasks = c.args.task_table.now.tasks in
    let log = c.args.log.now in
    subst (λ hs. HasLogged log hs log) (sym (none_log c.args.time tasks (still_each c.args.time tasks (c.may_be_due.ensures c.if-not-may_be_due.true)))) (logs_none log)
