use Rattle.std.proofs.Common.{◌≡◌, ◌<◌, ◌≤◌, ℕ, None, length, get_or, All}
use Rattle.domain_run.specs.declared.task.Task.{Task}
use Rattle.domain_run.specs.Sound.{IsSound}
use Rattle.domain_run.specs.private.TaskTable.{without_zero_lag}
use Rattle.domain_run.proofs.task_table.TaskTable.deferred_lag.Given as goal

abbrev pub invariant-loop-place : goal.invariant-loop-place
invariant-loop-place l = record {
  cpus : l.self.cpus ≡ l.fn.self.cpus;
  places : l.self.places ≡ l.fn.self.places;
  many : length l.self.tasks ≡ length l.fn.self.tasks;
  before : (i : ℕ) (d : Task) → i < l.place → i < length l.fn.self.tasks → get_or l.self.tasks i d ≡ without_zero_lag (get_or l.fn.self.tasks i d);
  following : (i : ℕ) (d : Task) → l.place ≤ i → get_or l.self.tasks i d ≡ get_or l.fn.self.tasks i d;
  sound : All (IsSound l.time) l.self.tasks;
  long : length l.lags ≡ 256;
  lags : (i : ℕ) (d : Task) → i < l.place → i < length l.fn.self.tasks → get_or l.lags i None ≡ (get_or l.fn.self.tasks i d).zero_lag;
}
