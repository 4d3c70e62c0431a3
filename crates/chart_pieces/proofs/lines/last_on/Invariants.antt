use Rattle.std.proofs.Common.{◌≤◌, ◌≢◌, All, drop, length}
use Rattle.chart_pieces.proofs.lines.last_on.Given as goal

-- none after is on the CPU
abbrev pub invariant-loop-left : goal.invariant-loop-left
invariant-loop-left l = record {
  inside : l.left ≤ length l.bars;
  others : All (λ b. b.cpu ≢ l.cpu) (drop l.left l.bars);
}

abbrev pub decreases-loop-left : goal.decreases-loop-left
decreases-loop-left l = l.left
