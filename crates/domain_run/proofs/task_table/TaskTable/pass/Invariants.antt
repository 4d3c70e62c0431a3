use Rattle.std.proofs.Common.{◌≡◌, ℕ, ◌+◌, ◌-◌, ◌*◌, ◌≤◌, None, map, length, get_or, All}
use Rattle.std.specs.List.{flat_map}
use Rattle.std.specs.Prelude.{IfSome}
use Rattle.domain_run.specs.Sound.{IsSound}
use Rattle.due_times.specs.OpenCharges.{end_of}
use Rattle.due_times.specs.Timers.{AreLater}
use Rattle.domain_run.specs.private.Expiring.{logged_passed, LogsPart}
use Rattle.domain_run.specs.private.Owed.{time_passed}
use Rattle.domain_run.proofs.task_table.TaskTable.pass.Given as goal

abbrev pub invariant-loop-cpu : goal.invariant-loop-cpu
invariant-loop-cpu l = record {
  cpus : l.self.cpus ≡ l.fn.self.cpus;
  places : l.self.places ≡ l.fn.self.places;
  clock : l.self.clock ≡ l.fn.self.clock;
  end : l.end ≡ l.fn.self.clock + l.ticks;
  within : l.cpu ≤ length l.self.charges;
  long : length l.self.charges ≡ length l.fn.self.charges;
  later : AreLater (map end_of l.self.charges) l.end 0 l.cpu;
  ends : (cpu : ℕ) → IfSome (get_or l.self.charges cpu None) (λ s. l.fn.self.clock + l.ticks ≤ s.end);
  left : map (time_passed l.time l.ticks l.self.charges) l.self.tasks ≡ map (time_passed l.time l.ticks l.fn.self.charges) l.fn.self.tasks;
  sound : All (IsSound l.time) l.self.tasks;
  logged : LogsPart (flat_map (logged_passed l.time l.ticks l.fn.self.charges) l.fn.self.tasks) (flat_map (logged_passed l.time l.ticks l.self.charges) l.self.tasks) l.fn.log l.log;
  spare : l.fn.log.room ≤ l.log.room + 3 * l.cpu;
}

abbrev pub decreases-loop-cpu : goal.decreases-loop-cpu
decreases-loop-cpu l = length l.fn.self.charges - l.cpu
