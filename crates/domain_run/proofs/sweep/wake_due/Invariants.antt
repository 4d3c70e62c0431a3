use Rattle.std.proofs.Common.{◌≡◌, ◌≤◌, ◌+◌, ◌-◌, ◌*◌, length, All}
use Rattle.domain_run.specs.Sound.{IsSound}
use Rattle.domain_run.proofs.LoggedWoken.{WalkLogs}
use Rattle.domain_run.proofs.sweep.wake_due.Given as goal

abbrev pub invariant-loop-place : goal.invariant-loop-place
invariant-loop-place l = record {
  cpus : l.task_table.cpus ≡ l.fn.task_table.cpus;
  places : l.task_table.places ≡ l.fn.task_table.places;
  within : l.place ≤ length l.task_table.tasks;
  walk : WalkLogs l.time l.fn.task_table.tasks l.task_table.tasks l.place l.fn.log l.log;
  spare : l.fn.log.room + 6 * (length l.task_table.tasks - l.place) ≤ l.log.room + 6 * length l.fn.task_table.tasks;
  sound : All (IsSound l.time) l.task_table.tasks;
}

abbrev pub decreases-loop-place : goal.decreases-loop-place
decreases-loop-place l = length l.task_table.tasks - l.place
