use Rattle.std.proofs.Common.{◌≡◌, ◌+◌, ◌*◌, ◌≤◌, take}
use Rattle.std.specs.Prelude.{sum_by}
use Rattle.trace_compare.specs.Shift.{task_score}
use Rattle.trace_compare.specs.private.Choices.{most_of}
use Rattle.trace_compare.proofs.shift.score_if.Given as goal

abbrev pub invariant-loop-task : goal.invariant-loop-task
invariant-loop-task l = record {
  told : l.total ≡ sum_by (task_score l.within l.share l.shift) (take l.task-index l.tasks);
  small : l.total ≤ 4096 * l.task-index;
  rest : l.left + sum_by (most_of l.share) (take l.task-index l.tasks) ≡ sum_by (most_of l.share) l.tasks;
  few : sum_by (most_of l.share) l.tasks ≤ 4096 * 256;
}
