use Rattle.std.proofs.Common.{◌≡◌, ◌+◌, ◌*◌, ◌≤◌, ◌<◌, ℕ, length, slice_index_or, vec_capacity}
use Rattle.std.specs.Vec.Iter.{into_iter_items, into_iter_len}
use Rattle.bw_gate.specs.Pieces.{bw_of_tickets}
use Rattle.call_book.specs.Ending.{EndingView}
use Rattle.session.specs.private.Closing.{AreHistories, AreSums, HaveEnded}
use Rattle.session.proofs.closing_session.close_all.Given as goal

-- so many books are closed; those that are left follow
abbrev pub invariant-loop-book : goal.invariant-loop-book
invariant-loop-book g l = record {
  clients : l.clients.items ≡ l.fn.clients.items;
  left : (j : ℕ) (x : EndingView) → j < into_iter_len l.rest → slice_index_or (into_iter_items l.rest) j x ≡ slice_index_or l.fn.books.items (length l.histories.items + j) x;
  count : length l.histories.items + into_iter_len l.rest ≡ length g.N.Names.id.cpu_sets;
  histories : AreHistories g.N.Names.id l.fn.clients.items l.histories.items;
  ended : HaveEnded l.fn.books.items l.histories.items l.states.items;
  sums : AreSums l.histories.items l.home.tickets.items;
  none : (d : ℕ) → length l.histories.items ≤ d → bw_of_tickets d l.home.tickets.items ≡ 0;
  few : length l.home.tickets.items ≤ length l.histories.items * 256;
  room : length g.N.Names.id.cpu_sets * 256 ≤ vec_capacity l.home.tickets;
  sections : length g.N.Names.id.cpu_sets ≤ vec_capacity l.histories;
  machines : length g.N.Names.id.cpu_sets ≤ vec_capacity l.states;
}

abbrev pub decreases-loop-book : goal.decreases-loop-book
decreases-loop-book g l = into_iter_len l.rest
