use Rattle.std.proofs.Common.{◌≡◌, ◌+◌, ◌≤◌, ◌++◌, length, map, All, vec_capacity}
use Rattle.std.specs.Vec.Iter.{into_iter_items, into_iter_len}
use Rattle.session.specs.private.Begun.{unplayed}
use Rattle.session.proofs.begun_run.play_all.Given as goal

-- those that have their buffers, and then those that are left
abbrev pub invariant-loop-domain : goal.invariant-loop-domain
invariant-loop-domain l = record {
  items : l.playing.items ++ map (unplayed l.logs) (into_iter_items l.rest) ≡ map (unplayed l.logs) l.fn.books.items;
  room : length l.playing.items + into_iter_len l.rest ≤ vec_capacity l.playing;
  played : All (λ p. p.book.gate ≡ l.gate) l.playing.items;
  left : All (λ b. b.gate ≡ l.gate) (into_iter_items l.rest);
}

abbrev pub decreases-loop-domain : goal.decreases-loop-domain
decreases-loop-domain l = into_iter_len l.rest
