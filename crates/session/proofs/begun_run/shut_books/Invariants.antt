use Rattle.std.proofs.Common.{◌≡◌, All}
use Rattle.session.proofs.begun_run.shut_books.Given as goal

abbrev pub invariant-loop-book : goal.invariant-loop-book
invariant-loop-book l = All (λ p. p.book.gate ≡ l.gate) l.books.items

abbrev pub decreases-loop-book : goal.decreases-loop-book
decreases-loop-book l = goal.left-loop-book l
