use Rattle.std.proofs.Common.{◌≡◌, ◌+◌, ◌-◌, ◌≤◌, ◌++◌, drop, map, length}
use Rattle.trace_compare.specs.Differences.{pairs_of, start_apart, end_apart, same_cpu}
use Rattle.trace_compare.proofs.differences.apart_of.Given as goal

abbrev pub invariant-loop-i : goal.invariant-loop-i
invariant-loop-i l = record {
  starts : l.found.starts.items ++ map (start_apart l.shift) (pairs_of (drop l.i l.model) (drop l.i l.partners)) ≡ map (start_apart l.shift) (pairs_of l.model l.partners);
  ends : l.found.ends.items ++ map (end_apart l.shift) (pairs_of (drop l.i l.model) (drop l.i l.partners)) ≡ map (end_apart l.shift) (pairs_of l.model l.partners);
  same : l.found.same_cpu + same_cpu (pairs_of (drop l.i l.model) (drop l.i l.partners)) ≡ same_cpu (pairs_of l.model l.partners);
  few : l.found.same_cpu ≤ l.i;
}

abbrev pub decreases-loop-i : goal.decreases-loop-i
decreases-loop-i l = length l.model - l.i
