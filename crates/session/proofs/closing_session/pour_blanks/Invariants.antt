use Rattle.session.specs.private.Parts.{AreBlanksOf}
use Rattle.session.proofs.closing_session.pour_blanks.Given as goal

abbrev pub invariant-loop-blank : goal.invariant-loop-blank
invariant-loop-blank g l = AreBlanksOf g.N.Names.id.gate l.home.items × AreBlanksOf g.N.Names.id.gate l.blanks.items

abbrev pub decreases-loop-blank : goal.decreases-loop-blank
decreases-loop-blank g l = goal.left-loop-blank g l
