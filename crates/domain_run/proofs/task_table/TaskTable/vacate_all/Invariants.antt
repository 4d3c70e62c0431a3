use Rattle.std.proofs.Common.{◌≡◌, ◌<◌, ℕ, None, get_or, length}
use Rattle.domain_run.proofs.task_table.TaskTable.vacate_all.Given as goal

abbrev pub invariant-loop-cpu : goal.invariant-loop-cpu
invariant-loop-cpu l = record {
  cpus : l.self.cpus ≡ l.fn.self.cpus;
  places : l.self.places ≡ l.fn.self.places;
  tasks : l.self.tasks ≡ l.fn.self.tasks;
  long : length l.self.charges ≡ length l.fn.self.charges;
  nobody : (cpu : ℕ) → cpu < l.cpu → get_or l.self.charges cpu None ≡ None;
}
