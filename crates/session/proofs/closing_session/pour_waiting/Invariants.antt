use Rattle.session.specs.private.Parts.{AreBlanksOf, AreHands}
use Rattle.session.proofs.closing_session.pour_waiting.Given as goal

abbrev pub invariant-loop-hand : goal.invariant-loop-hand
invariant-loop-hand g l = AreBlanksOf g.N.Names.id.gate l.home.items × AreHands g.N.Names.id.gate g.N.Names.id.spines l.hands.items

abbrev pub decreases-loop-hand : goal.decreases-loop-hand
decreases-loop-hand g l = goal.left-loop-hand g l
