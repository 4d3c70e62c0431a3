use Rattle.std.proofs.Common.{◌≡◌, take}
use Rattle.trace_compare.specs.Differences.{last_end}
use Rattle.trace_compare.proofs.nearest.last_end_of.Given as goal

abbrev pub invariant-loop-task : goal.invariant-loop-task
invariant-loop-task l = l.time ≡ last_end (take l.task-index l.tasks)
