use Rattle.std.proofs.Common.{◌≡◌, []}
use Rattle.call_book.proofs.book.domain.ending.playing.PlayingBook.make_rest.Given as goal

-- no switch waits, so each piece makes at least one tick
abbrev pub invariant-pieces : goal.invariant-pieces
invariant-pieces l = record {
  book : l.self.book ≡ l.fn.self.book;
  none : l.self.at.switches ≡ [];
}

abbrev pub decreases-pieces : goal.decreases-pieces
decreases-pieces l = l.self.left
