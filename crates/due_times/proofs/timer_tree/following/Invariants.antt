use Rattle.std.proofs.Common.{ℕ, ◌+◌, ◌*◌, ◌<◌, ◌≤◌, get_or}
use Rattle.due_times.proofs.Climbing.{Covers}
use Rattle.due_times.proofs.timer_tree.following.Given as goal

-- the node is above the one where the climb began, and has not come; a node of its height is not
-- after any below it
abbrev pub invariant-loop-at : goal.invariant-loop-at
invariant-loop-at l = record {
  one : 1 ≤ l.at;
  short : l.span ≤ l.from;
  low : l.at * l.span ≤ l.from;
  high : l.from < (l.at + 1) * l.span;
  later : l.time < get_or l.nodes l.at 0;
  covers : (b : ℕ) → 1 ≤ b → Covers l.nodes b l.span;
}

abbrev pub decreases-loop-at : goal.decreases-loop-at
decreases-loop-at l = l.at
