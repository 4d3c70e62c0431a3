use Rattle.std.proofs.Common.{◌≡◌, ◌+◌, ◌≤◌, ◌++◌, length, map, All, vec_capacity}
use Rattle.std.specs.Vec.Iter.{into_iter_items, into_iter_len}
use Rattle.session.specs.Begun.{played_books}
use Rattle.session.specs.private.Begun.{without_pieces}
use Rattle.session.specs.private.Ending.{books_of}
use Rattle.session.proofs.begun_run.finish_all.Given as goal

-- those that are finished, and then those that are left
abbrev pub invariant-loop-book : goal.invariant-loop-book
invariant-loop-book l = record {
  items : map without_pieces (books_of l.ending.items) ++ map without_pieces (played_books (into_iter_items l.rest)) ≡ map without_pieces (played_books l.fn.books.items);
  room : length l.ending.items + into_iter_len l.rest ≤ vec_capacity l.ending;
  gates : All (λ p. p.book.gate ≡ l.gate) (into_iter_items l.rest);
}

abbrev pub decreases-loop-book : goal.decreases-loop-book
decreases-loop-book l = into_iter_len l.rest
