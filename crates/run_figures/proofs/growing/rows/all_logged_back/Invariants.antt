use Rattle.std.proofs.Common.{ℕ, ◌<◌, get_or}
use Rattle.run_figures.specs.declared.logged.TaskTally.{TaskTally}
use Rattle.run_figures.specs.private.Growing.{IsLoggedBack, IsLoggedSoon}
use Rattle.run_figures.proofs.growing.rows.all_logged_back.Given as goal

abbrev pub invariant-loop-place : goal.invariant-loop-place
invariant-loop-place l = record {
  back : (i : ℕ) (d e : TaskTally) → i < l.place → IsLoggedBack l.micros (get_or l.before i d) (get_or l.now i e);
  soon : (i : ℕ) (d : TaskTally) → i < l.place → IsLoggedSoon l.shift (get_or l.now i d);
}
