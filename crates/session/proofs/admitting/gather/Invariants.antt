use Rattle.std.proofs.Common.{◌≡◌, ◌≤◌, length, drop, vec_capacity}
use Rattle.session.proofs.Admitted.{IsLeft}
use Rattle.session.proofs.admitting.gather.Given as goal

-- the answers to the tasks so far are put together
abbrev pub invariant-loop-task : goal.invariant-loop-task
invariant-loop-task l = record {
  left : IsLeft (λ q. q.items) (length l.fn.shares.items) l.tasks (drop l.task-index l.tasks) l.fn.shares.items l.shares.items l.refused.items;
  count : length l.refused.items ≤ l.task-index;
  room : vec_capacity l.refused ≡ vec_capacity l.fn.refused;
}
