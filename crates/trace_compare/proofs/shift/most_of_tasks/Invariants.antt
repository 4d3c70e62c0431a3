use Rattle.std.proofs.Common.{◌≡◌, ◌*◌, ◌≤◌, take}
use Rattle.std.specs.Prelude.{sum_by}
use Rattle.trace_compare.specs.private.Choices.{most_of}
use Rattle.trace_compare.proofs.shift.most_of_tasks.Given as goal

abbrev pub invariant-loop-task : goal.invariant-loop-task
invariant-loop-task l = record {
  most : l.most ≡ sum_by (most_of l.share) (take l.task-index l.tasks);
  small : l.most ≤ 4096 * l.task-index;
}
