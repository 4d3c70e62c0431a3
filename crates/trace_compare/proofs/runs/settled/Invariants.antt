use Rattle.std.proofs.Common.{◌≡◌, ◌++◌, drop, All}
use Rattle.trace_compare.specs.Runs.{joined_on, long_runs, IsShort}
use Rattle.trace_compare.proofs.runs.settled.Given as goal

abbrev pub invariant-loop-run : goal.invariant-loop-run
invariant-loop-run l = record {
  told : l.runs.items ++ long_runs l.noise (joined_on l.noise l.current (drop l.run-index l.later)) ≡ long_runs l.noise (joined_on l.noise l.initial.current l.later);
  current : IsShort l.current;
  runs : All IsShort l.runs.items;
}
