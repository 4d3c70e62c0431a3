use Rattle.switch_text.specs.private.Winning.{IsWinningTree}
use Rattle.switch_text.proofs.Merged.{AreStarted}
use Rattle.switch_text.proofs.merge.first_heads.Given as goal

abbrev pub invariant-loop-i : goal.invariant-loop-i
invariant-loop-i l = record { started : AreStarted l.runs l.heads.heads l.i; tree : IsWinningTree l.heads }
