use Rattle.std.proofs.Common.{◌<◌, ℕ, length, get_or}
use Rattle.domain_run.specs.declared.task.Task.{Task}
use Rattle.domain_run.specs.private.DeferringTimers.{MayDefer}
use Rattle.domain_run.proofs.task_table.TaskTable.may_defer.Given as goal

abbrev pub invariant-tasks : goal.invariant-tasks
invariant-tasks l = record {
  each : (i : ℕ) (d : Task) → i < l.place → i < length l.self.tasks → MayDefer l.time (get_or l.self.tasks i d);
}
