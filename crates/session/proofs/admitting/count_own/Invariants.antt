use Rattle.std.proofs.Common.{◌≡◌, ◌≤◌, length, take}
use Rattle.session.specs.private.Admitting.{own_tasks}
use Rattle.session.proofs.admitting.count_own.Given as goal

-- so far
abbrev pub invariant-loop-task : goal.invariant-loop-task
invariant-loop-task l = record {
  few : l.count ≤ l.task-index;
  count : l.count ≡ length (own_tasks l.many l.place (take l.task-index l.tasks));
}
