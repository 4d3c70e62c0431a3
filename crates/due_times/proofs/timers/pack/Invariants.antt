use Rattle.std.proofs.Common.{◌≡◌, length}
use Rattle.std.specs.Prelude.{vec_capacity}
use Rattle.due_times.specs.Timers.{times_by_place, AreTimers}
use Rattle.due_times.specs.private.Leaves.{ArePacked}
use Rattle.due_times.proofs.timers.pack.Given as goal

abbrev pub invariant-loop-place : goal.invariant-loop-place
invariant-loop-place l = record {
  kept : AreTimers l.timer_tree l.order.items (vec_capacity l.order);
  packed : ArePacked l.order.items l.place;
  times : times_by_place l.timer_tree l.order.items ≡ times_by_place l.fn.timer_tree l.fn.order.items;
  count : length l.order.items ≡ length l.fn.order.items;
  leaves : length l.timer_tree ≡ length l.fn.timer_tree;
}
