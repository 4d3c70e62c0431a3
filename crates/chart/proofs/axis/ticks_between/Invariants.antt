use Rattle.std.proofs.Common.{◌≡◌, ◌-◌, ◌*◌, ◌≤◌, ◌^◌, map, All}
use Rattle.std.specs.List.{range_with_len}
use Rattle.chart.proofs.axis.ticks_between.Given as goal

abbrev pub invariant-loop-k : goal.invariant-loop-k
invariant-loop-k l = record {
  ticks : l.ticks.items ≡ map (λ k. k * l.step) (range_with_len l.first (l.k - l.first));
  early : All (λ t. t ≤ 2 ^ 42) l.ticks.items;
  above : l.first ≤ l.k;
  few : l.k - l.first ≤ l.stop - l.first;
}

abbrev pub decreases-loop-k : goal.decreases-loop-k
decreases-loop-k l = l.stop - l.k
