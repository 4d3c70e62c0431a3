use Rattle.std.proofs.Common.{◌≡◌, ◌+◌, ◌≤◌, ◌++◌, length, map, vec_capacity}
use Rattle.std.specs.Vec.Iter.{into_iter_items, into_iter_len}
use Rattle.session.specs.private.Ending.{unstreamed_ending}
use Rattle.session.proofs.closing_session.end_all.Given as goal

-- those that are ended, and then those that are left
abbrev pub invariant-loop-book : goal.invariant-loop-book
invariant-loop-book l = record {
  items : l.ending.items ++ map unstreamed_ending (into_iter_items l.rest) ≡ map unstreamed_ending l.fn.books.items;
  room : length l.ending.items + into_iter_len l.rest ≤ vec_capacity l.ending;
}

abbrev pub decreases-loop-book : goal.decreases-loop-book
decreases-loop-book l = into_iter_len l.rest
