use Rattle.std.proofs.Common.{◌<◌, ◌≤◌, ℕ, get_or}
use Rattle.trace_compare.specs.Differences.{far_from}
use Rattle.trace_compare.specs.declared.run.Run.{Run}
use Rattle.trace_compare.proofs.nearest.nearest_of.Given as goal

abbrev pub invariant-loop-i : goal.invariant-loop-i
invariant-loop-i l = record {
  within : l.nearest < l.i;
  least : (j : ℕ) (d : Run) → j < l.i → far_from l.shift l.m (get_or l.recorded l.nearest d) ≤ far_from l.shift l.m (get_or l.recorded j d);
  first : (j : ℕ) (d : Run) → j < l.nearest → far_from l.shift l.m (get_or l.recorded l.nearest d) < far_from l.shift l.m (get_or l.recorded j d);
}
