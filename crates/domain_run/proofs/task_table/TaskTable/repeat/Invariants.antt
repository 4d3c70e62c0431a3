use Rattle.std.proofs.Common.{◌≡◌, take}
use Rattle.domain_run.specs.Shift.{paced_all}
use Rattle.domain_run.proofs.task_table.TaskTable.repeat.Given as goal

abbrev pub invariant-loop-place : goal.invariant-loop-place
invariant-loop-place l = record {
  cpus : l.self.cpus ≡ l.fn.self.cpus;
  places : l.self.places ≡ l.fn.self.places;
  tasks : l.self.tasks ≡ paced_all l.micros (take l.place l.paces) l.fn.self.tasks;
}
