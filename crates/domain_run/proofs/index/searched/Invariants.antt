use Rattle.std.proofs.Common.{◌<◌, ◌≢◌, ℕ, length, get_or}
use Rattle.domain_run.specs.declared.task.Task.{Task}
use Rattle.domain_run.proofs.index.searched.Given as goal

abbrev pub invariant-loop-place : goal.invariant-loop-place
invariant-loop-place l = record {
  passed : (k : ℕ) (d : Task) → k < l.place → k < length l.tasks → (get_or l.tasks k d).number ≢ l.number;
}
