use Rattle.std.proofs.Common.{◌≡◌, ◌≢◌, ◌<◌, ◌≤◌, ◌+◌, ◌++◌, ℕ, length, map, take, get_or, vec_len}
use Rattle.std.specs.Prelude.{vec_capacity, IfSome}
use Rattle.attr_check.specs.Ratio.{cap}
use Rattle.edf_pick.specs.declared.moves.Moved.{Moved}
use Rattle.domain_run.specs.Sound.{occupant}
use Rattle.domain_run.specs.Tick.{sum_of}
use Rattle.domain_run.specs.private.Choosing.{AreCounted, task_homed_by, switch_made}
use Rattle.domain_run.specs.private.StaleCharges.{IsTrusted}
use Rattle.domain_run.specs.private.Owed.{owed_all, MayStartOf}
use Rattle.domain_run.proofs.task_table.starting.charge_moved.Given as goal

abbrev pub invariant-loop-i : goal.invariant-loop-i
invariant-loop-i l = record {
  wide : length l.accounts.all ≡ length l.fn.accounts.all;
  counts : AreCounted l.accounts l.charges l.tasks;
  written : owed_all l.charges l.tasks ≡ map (task_homed_by l.places (take l.i l.moves)) (owed_all l.fn.charges l.fn.tasks);
  within : sum_of (owed_all l.charges l.tasks) ≤ cap (length l.fn.accounts.all) l.moment.limit;
  may : (cpu : ℕ) → IfSome (occupant l.places cpu) (MayStartOf (owed_all l.charges l.tasks));
  clock : l.charges.upto ≡ l.fn.charges.upto;
  long : length l.charges.charges ≡ length l.fn.charges.charges;
  trusted : (cpu : ℕ) → ((j : ℕ) (d : Moved) → l.i ≤ j → j < length l.moves → (get_or l.moves j d).cpu ≢ cpu)
      → IsTrusted l.stale (length l.fn.accounts.all) (occupant l.places cpu) l.charges.charges (owed_all l.charges l.tasks) cpu;
  switches : l.switches.items ≡ l.fn.switches.items ++ map (switch_made l.moment.time (owed_all l.fn.charges l.fn.tasks) l.places) (take l.i l.moves);
  few : vec_len l.switches ≤ vec_len l.fn.switches + l.i;
  spare : vec_capacity l.switches ≡ vec_capacity l.fn.switches;
}
