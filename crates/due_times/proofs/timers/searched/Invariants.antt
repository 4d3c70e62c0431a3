use Rattle.std.proofs.Common.{ℕ, ◌-◌, ◌<◌, ◌≤◌, length, get_or}
use Rattle.due_times.proofs.timers.searched.Given as goal

-- the leaves before `low` are before the one that is looked for, and those from `high` on are not
abbrev pub invariant-loop-low : goal.invariant-loop-low
invariant-loop-low l = record {
  ordered : l.low ≤ l.high;
  most : l.high ≤ length l.order;
  before : (k : ℕ) → k < l.low → get_or l.order k 0 < l.leaf;
  following : (k : ℕ) → l.high ≤ k → k < length l.order → l.leaf ≤ get_or l.order k 0;
}

abbrev pub decreases-loop-low : goal.decreases-loop-low
decreases-loop-low l = l.high - l.low
