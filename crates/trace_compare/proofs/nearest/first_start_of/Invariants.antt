use Rattle.std.proofs.Common.{◌≡◌, take}
use Rattle.trace_compare.specs.Differences.{first_start}
use Rattle.trace_compare.proofs.nearest.first_start_of.Given as goal

abbrev pub invariant-loop-task : goal.invariant-loop-task
invariant-loop-task l = l.time ≡ first_start (take l.task-index l.tasks)
