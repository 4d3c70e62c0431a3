use Rattle.std.proofs.Common.{subst}
use Rattle.domain_run.specs.private.TaskTable.{TaskTableView}
use Rattle.domain_run.specs.private.Timers.{AreNotDue}
use Rattle.domain_run.specs.private.Owed.{owed_all}
use Rattle.domain_run.proofs.Due.{none_due_at}
use Rattle.domain_run.proofs.task_table.TaskTable.next_due.Goals as goal

pub returns-clause-others : goal.returns-clause-others
returns-clause-others c =
    let s = c.self.inside in
    subst (λ (r : TaskTableView). AreNotDue r.tasks c.args.time c.args.from c.next_due.result) c.self.view_is
    (none_due_at c.args.time c.args.from c.next_due.result s.queue.timers (owed_all s.charges s.tasks) c.self.invariant.counted.counts.due c.next_due.ensures.others)
