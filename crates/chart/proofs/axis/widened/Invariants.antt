use Rattle.std.proofs.Common.{◌≡◌, ◌-◌, ◌≤◌, ◌<◌, ◌^◌}
use Rattle.chart.specs.Axis as axis
use Rattle.chart.proofs.axis.widened.Given as goal

abbrev pub invariant-loop-times : goal.invariant-loop-times
invariant-loop-times l = record {
  few : l.times ≤ 12;
  unit : l.unit ≡ axis.widened l.times l.length;
  some : 0 < l.unit;
  small : l.unit ≤ 2 ^ 42;
}

abbrev pub decreases-loop-times : goal.decreases-loop-times
decreases-loop-times l = 12 - l.times
