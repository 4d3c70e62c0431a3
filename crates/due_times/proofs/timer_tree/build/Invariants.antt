use Rattle.std.proofs.Common.{◌≡◌, ℕ, ◌/◌, ◌<◌, ◌≤◌, length, get_or}
use Rattle.std.specs.Prelude.{vec_capacity}
use Rattle.due_times.specs.private.TimerTree.{IsLeast}
use Rattle.due_times.proofs.timer_tree.build.Given as goal

abbrev pub invariant-loop-at : goal.invariant-loop-at
invariant-loop-at l = record {
  inner : l.at ≤ length l.nodes.items / 4;
  each : (i : ℕ) → 1 ≤ i → l.at ≤ i → i < length l.nodes.items / 4 → IsLeast l.nodes.items i;
  long : length l.nodes.items ≡ length l.fn.nodes.items;
  others : (j : ℕ) → length l.nodes.items / 2 ≤ j → get_or l.nodes.items j 0 ≡ get_or l.fn.nodes.items j 0;
  room : vec_capacity l.nodes ≡ vec_capacity l.fn.nodes;
}

abbrev pub decreases-loop-at : goal.decreases-loop-at
decreases-loop-at l = l.at
