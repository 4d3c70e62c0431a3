use Rattle.std.proofs.Common.{◌≡◌, All}
use Rattle.session.proofs.parts.shut.Given as goal

abbrev pub invariant-loop-domain : goal.invariant-loop-domain
invariant-loop-domain l = All (λ b. b.gate ≡ l.gate) l.books.items

abbrev pub decreases-loop-domain : goal.decreases-loop-domain
decreases-loop-domain l = goal.left-loop-domain l
