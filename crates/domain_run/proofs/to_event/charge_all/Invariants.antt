use Rattle.std.proofs.Common.{◌≡◌, ◌<◌, ℕ, All}
use Rattle.std.specs.Int.{bit_at}
use Rattle.domain_run.specs.private.TaskTable.{HasItsCharge}
use Rattle.domain_run.proofs.to_event.charge_all.Given as goal

abbrev pub invariant-loop-cpu : goal.invariant-loop-cpu
invariant-loop-cpu l = record {
  marked : l.cpu < 64 → bit_at l.left l.cpu ≡ 1;
  lowest : (i : ℕ) → i < l.cpu → bit_at l.left i ≡ 0;
  cpus : l.task_table.cpus ≡ l.fn.task_table.cpus;
  places : l.task_table.places ≡ l.fn.task_table.places;
  clock : l.task_table.clock ≡ l.fn.task_table.clock;
  tasks : l.task_table.tasks ≡ l.fn.task_table.tasks;
  right : All (λ t. bit_at l.left t.cpu ≡ 0 → HasItsCharge l.fn.task_table.places l.fn.task_table.cpus l.limit l.fn.task_table.tasks l.task_table.charges t) l.fn.task_table.tasks;
}

abbrev pub decreases-loop-cpu : goal.decreases-loop-cpu
decreases-loop-cpu l = l.left
