use Rattle.std.proofs.Common.{◌≡◌, ◌≤◌, take}
use Rattle.trace_compare.specs.Differences.{others}
use Rattle.trace_compare.proofs.differences.others_of.Given as goal

abbrev pub invariant-loop-run : goal.invariant-loop-run
invariant-loop-run l = record {
  told : l.count ≡ others l.from l.until l.shift (take l.run-index l.left);
  few : l.count ≤ l.run-index;
}
