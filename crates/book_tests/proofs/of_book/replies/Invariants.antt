use Rattle.std.proofs.Common.{◌≡◌}
use Rattle.book_tests.proofs.of_book.replies.Given as goal

abbrev pub invariant-loop-entry : goal.invariant-loop-entry
invariant-loop-entry g l = l.desk.gate ≡ l.fn.desk.gate
