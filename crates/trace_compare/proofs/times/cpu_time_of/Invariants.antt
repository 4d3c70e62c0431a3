use Rattle.std.proofs.Common.{◌≡◌, take}
use Rattle.trace_compare.specs.Differences.{cpu_time}
use Rattle.trace_compare.proofs.times.cpu_time_of.Given as goal

abbrev pub invariant-loop-run : goal.invariant-loop-run
invariant-loop-run l = l.total ≡ cpu_time (take l.run-index l.runs)
