use Rattle.std.proofs.Common.{◌≡◌, ◌<◌, ℕ, slice_index_or}
use Rattle.call_book.specs.Book.{own_entries}
use Rattle.session.specs.Asks.{ClientView, client_pass_in}
use Rattle.session.proofs.begun_run.agree_with.Given as goal

-- so many passes agree with the book
abbrev pub invariant-loop-k : goal.invariant-loop-k
invariant-loop-k g l =
    (l.book ≡ l.fn.book) × (l.clients.items ≡ l.fn.clients.items)
    × ((j : ℕ) (x : ClientView) → j < l.k → client_pass_in (slice_index_or l.fn.clients.items j x) l.fn.place ≡ own_entries (slice_index_or l.fn.clients.items j x).number l.fn.book.book.history)
