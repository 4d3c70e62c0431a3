use Rattle.std.proofs.Common.{◌≡◌, length}
use Rattle.std.specs.Prelude.{vec_capacity}
use Rattle.due_times.specs.private.TimerTree.{AreCopied}
use Rattle.due_times.proofs.timer_tree.copy_leaves.Given as goal

abbrev pub invariant-loop-leaf : goal.invariant-loop-leaf
invariant-loop-leaf l = record {
  long : length l.nodes.items ≡ length l.fn.nodes.items;
  copied : AreCopied l.fn.nodes.items l.half l.leaf l.nodes.items;
  room : vec_capacity l.nodes ≡ vec_capacity l.fn.nodes;
}
