use Rattle.std.proofs.Common.{◌≡◌, ◌≤◌, ◌+◌, ◌*◌, map, take, All}
use Rattle.std.specs.List.{flat_map}
use Rattle.domain_run.specs.private.Paying.{paid}
use Rattle.domain_run.specs.private.TransitionLog.{logged_paid}
use Rattle.domain_run.specs.Sound.{IsSound}
use Rattle.domain_run.proofs.Logging.{LogsMixed}
use Rattle.domain_run.proofs.sweep.pay_all.Given as goal

abbrev pub invariant-loop-i : goal.invariant-loop-i
invariant-loop-i l = record {
  cpus : l.task_table.cpus ≡ l.fn.task_table.cpus;
  places : l.task_table.places ≡ l.fn.task_table.places;
  written : l.task_table.tasks ≡ map (paid l.time (take l.i l.running) l.ticks l.budgets) l.fn.task_table.tasks;
  sound : All (IsSound l.time) l.task_table.tasks;
  logged : LogsMixed (flat_map (logged_paid l.time (take l.i l.running) l.ticks l.budgets) l.fn.task_table.tasks) l.fn.log l.log;
  spare : l.fn.log.room ≤ l.log.room + 3 * l.i;
}
