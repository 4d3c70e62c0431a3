use Rattle.session.proofs.Opening.{Dealing}
use Rattle.session.proofs.parts.deal.Given as goal

abbrev pub invariant-loop-pass : goal.invariant-loop-pass
invariant-loop-pass l = Dealing l.fn.hands.items l.hands.items l.fn.passes.items l.passes.items

abbrev pub decreases-loop-pass : goal.decreases-loop-pass
decreases-loop-pass l = goal.left-loop-pass l
