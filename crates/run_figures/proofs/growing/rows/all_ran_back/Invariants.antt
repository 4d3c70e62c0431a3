use Rattle.std.proofs.Common.{ℕ, ◌<◌, get_or}
use Rattle.run_figures.specs.declared.ran.Ran.{Ran}
use Rattle.run_figures.specs.private.Growing.{IsRanBack}
use Rattle.run_figures.proofs.growing.rows.all_ran_back.Given as goal

abbrev pub invariant-loop-place : goal.invariant-loop-place
invariant-loop-place l = (i : ℕ) (d e : Ran) → i < l.place → IsRanBack (get_or l.before i d) (get_or l.now i e)
