use Rattle.std.proofs.Common.{ℕ, ◌<◌, length, get_or}
use Rattle.domain_run.specs.declared.task.Task.{Task}
use Rattle.domain_run.specs.LowTimes.{HasTime}
use Rattle.domain_run.proofs.task_table.TaskTable.has_time.Given as goal

abbrev pub invariant-loop-place : goal.invariant-loop-place
invariant-loop-place l = record {
  each : (i : ℕ) (d : Task) → i < l.place → i < length l.self.tasks → HasTime (get_or l.self.tasks i d);
}
