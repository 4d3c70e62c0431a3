use Rattle.std.proofs.Common.{◌≡◌, ◌≤◌}
use Rattle.chart.specs.Seconds.{shortened}
use Rattle.chart.proofs.texts.put_shortened.Given as goal

abbrev pub invariant-loop-left : goal.invariant-loop-left
invariant-loop-left l = record {
  text : l.out ≡ l.initial.out;
  same : shortened l.initial.left l.initial.n ≡ shortened l.left l.n;
  few : l.left ≤ l.initial.left;
}

abbrev pub decreases-loop-left : goal.decreases-loop-left
decreases-loop-left l = l.left
