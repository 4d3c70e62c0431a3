use Rattle.std.proofs.Common.{◌≡◌, ◌+◌, ◌≤◌, ◌++◌, map, vec_len, vec_capacity}
use Rattle.std.specs.Vec.Iter.{into_iter_items, into_iter_len}
use Rattle.call_book.specs.declared.book.stock.Held.{Held}
use Rattle.call_book.proofs.book.stock.Stock.into_pieces.Given as goal

abbrev pub invariant-loop-ticket : goal.invariant-loop-ticket
invariant-loop-ticket l =
    (l.home.items ++ map (λ (h : Held). h.ticket) (into_iter_items l.rest) ≡ map (λ (h : Held). h.ticket) l.fn.self.tickets)
    × (vec_len l.home + into_iter_len l.rest ≤ vec_capacity l.home)

abbrev pub decreases-loop-ticket : goal.decreases-loop-ticket
decreases-loop-ticket l = into_iter_len l.rest
