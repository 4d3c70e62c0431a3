use Rattle.std.proofs.Common.{◌≡◌, ◌+◌, ◌≤◌, ◌++◌, length, map}
use Rattle.std.specs.Prelude.{vec_capacity}
use Rattle.std.specs.Vec.Iter.{into_iter_items, into_iter_len}
use Rattle.session.specs.Begun.{played_books}
use Rattle.dl_session.specs.private.PlayedBooks.{played_book}
use Rattle.dl_session.proofs.played_books.take_books.Given as goal

-- the books so far, and then those that are left
abbrev pub invariant-loop-played : goal.invariant-loop-played
invariant-loop-played l = record {
  books : played_books l.books.items ++ map played_book (into_iter_items l.rest) ≡ map played_book l.fn.runs.items;
  room : length l.books.items + into_iter_len l.rest ≤ vec_capacity l.books;
}

abbrev pub decreases-loop-played : goal.decreases-loop-played
decreases-loop-played l = into_iter_len l.rest
