use Rattle.std.proofs.Common.{◌≡◌, ◌<◌, ℕ, length, map, take, get_or}
use Rattle.std.specs.Int.{bit_at}
use Rattle.edf_pick.specs.declared.moves.Moved.{Moved}
use Rattle.domain_run.specs.private.StaleCharges.{IsMarked}
use Rattle.domain_run.specs.private.Choosing.{AreCounted, task_homed_by}
use Rattle.domain_run.specs.private.Owed.{owed_all}
use Rattle.domain_run.proofs.task_table.choosing.home_all.Given as goal

abbrev pub invariant-loop-i : goal.invariant-loop-i
invariant-loop-i l = record {
  wide : length l.accounts.all ≡ length l.fn.accounts.all;
  counts : AreCounted l.accounts l.charges l.tasks;
  written : owed_all l.charges l.tasks ≡ map (task_homed_by l.places (take l.i l.moves)) (owed_all l.fn.charges l.fn.tasks);
  clock : l.charges.upto ≡ l.fn.charges.upto;
  long : length l.charges.charges ≡ length l.fn.charges.charges;
  marked : IsMarked l.fn.stale.rated l.fn.stale.cpus l.stale.cpus l.fn.charges.charges l.charges.charges (owed_all l.fn.charges l.fn.tasks) (owed_all l.charges l.tasks);
  moved : (j : ℕ) (d : Moved) → j < l.i → (get_or l.moves j d).cpu < 64 → bit_at l.stale.cpus (get_or l.moves j d).cpu ≡ 1;
  rated : l.stale.rated ≡ l.fn.stale.rated;
  sum : l.stale.sum ≡ l.fn.stale.sum;
  limit : l.stale.limit ≡ l.fn.stale.limit;
}
