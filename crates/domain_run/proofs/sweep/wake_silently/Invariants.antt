use Rattle.std.proofs.Common.{◌≡◌, ◌≤◌, ◌-◌, length, All}
use Rattle.domain_run.specs.Sound.{IsSound}
use Rattle.domain_run.proofs.Woken.{Walked}
use Rattle.domain_run.proofs.sweep.wake_silently.Given as goal

abbrev pub invariant-loop-place : goal.invariant-loop-place
invariant-loop-place l = record {
  cpus : l.task_table.cpus ≡ l.fn.task_table.cpus;
  places : l.task_table.places ≡ l.fn.task_table.places;
  within : l.place ≤ length l.task_table.tasks;
  walked : Walked l.time l.fn.task_table.tasks l.task_table.tasks l.place;
  sound : All (IsSound l.time) l.task_table.tasks;
}

abbrev pub decreases-loop-place : goal.decreases-loop-place
decreases-loop-place l = length l.task_table.tasks - l.place
