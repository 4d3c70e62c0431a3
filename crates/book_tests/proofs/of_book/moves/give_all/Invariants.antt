use Rattle.std.proofs.Common.{All, ◌≡◌, vec_len}
use Rattle.book_tests.proofs.of_book.moves.give_all.Given as goal

abbrev pub invariant-loop-ticket : goal.invariant-loop-ticket
invariant-loop-ticket l = All (λ t. t.gate ≡ l.fn.gate) l.tickets.items

abbrev pub decreases-loop-ticket : goal.decreases-loop-ticket
decreases-loop-ticket l = vec_len l.tickets
