use Rattle.std.proofs.Common.{◌≡◌, ℕ, ◌<◌, ◌≤◌, length, get_or}
use Rattle.std.specs.Prelude.{vec_capacity}
use Rattle.switch_text.specs.Names.{Names}
use Rattle.call_book.specs.Book.{BookView}
use Rattle.session.specs.Begun.{played_books}
use Rattle.dl_session.specs.private.PlayedBooks.{IsNamedBook}
use Rattle.dl_session.proofs.played_books.names_in_books.Given as goal

-- the names of the first books
abbrev pub invariant-loop-place : goal.invariant-loop-place
invariant-loop-place l = record {
  count : length l.all.items ≡ l.place;
  room : length l.fn.books ≤ vec_capacity l.all;
  named : (d : ℕ) (n : Names) → d < length l.all.items → (b : BookView) → IsNamedBook (get_or (played_books l.fn.books) d b) (get_or l.all.items d n);
}
