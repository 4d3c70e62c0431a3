use Rattle.session.specs.private.Parts.{AreBlanksOf}
use Rattle.session.proofs.closing_session.pour_hands.Given as goal

abbrev pub invariant-loop-client : goal.invariant-loop-client
invariant-loop-client g l = AreBlanksOf g.N.Names.id.gate l.home.items

abbrev pub decreases-loop-client : goal.decreases-loop-client
decreases-loop-client g l = goal.left-loop-client g l
