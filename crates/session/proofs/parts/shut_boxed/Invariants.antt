use Rattle.std.proofs.Common.{◌≡◌, All}
use Rattle.session.proofs.parts.shut_boxed.Given as goal

abbrev pub invariant-loop-book : goal.invariant-loop-book
invariant-loop-book l = All (λ b. b.gate ≡ l.gate) l.books.items

abbrev pub decreases-loop-book : goal.decreases-loop-book
decreases-loop-book l = goal.left-loop-book l
