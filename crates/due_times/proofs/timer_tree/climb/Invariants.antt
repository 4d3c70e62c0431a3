use Rattle.std.proofs.Common.{◌≡◌, ◌/◌, ◌<◌, length, get_or}
use Rattle.std.specs.Prelude.{vec_capacity}
use Rattle.due_times.specs.private.TimerTree.{IsTreeBut, leaves}
use Rattle.due_times.proofs.timer_tree.climb.Given as goal

-- the node above may not be right; each other one is
abbrev pub invariant-loop-at : goal.invariant-loop-at
invariant-loop-at l = record {
  tree : IsTreeBut (l.at / 4) l.nodes.items;
  there : l.at < length l.nodes.items;
  time : get_or l.nodes.items l.at 0 ≡ l.least;
  long : length l.nodes.items ≡ length l.fn.nodes.items;
  leaves_are : leaves l.nodes.items ≡ leaves l.fn.nodes.items;
  room : vec_capacity l.nodes ≡ vec_capacity l.fn.nodes;
}

abbrev pub decreases-loop-at : goal.decreases-loop-at
decreases-loop-at l = l.at
