use Rattle.std.proofs.Common.{◌≡◌, drop}
use Rattle.trace_compare.specs.Differences.{first_other}
use Rattle.trace_compare.proofs.differences.other_of.Given as goal

abbrev pub invariant-loop-run : goal.invariant-loop-run
invariant-loop-run l = first_other l.from l.until l.shift (drop l.run-index l.left) ≡ first_other l.from l.until l.shift l.left
