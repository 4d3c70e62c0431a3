use Rattle.std.proofs.Common.{◌≡◌, ◌+◌, ◌≤◌, ◌<◌, ℕ, length, get_or, vec_len, vec_capacity}
use Rattle.std.specs.Vec.Iter.{into_iter_items, into_iter_len}
use Rattle.session.specs.private.Admitting.{SeatView}
use Rattle.session.proofs.admitting.start_all.Given as goal

-- a thread was started for each seat so far, and the others wait
abbrev pub invariant-loop-seat : goal.invariant-loop-seat
invariant-loop-seat g l =
    let seats = l.fn.seats.items in let rest = l.seat-iterator in record {
      left : vec_len l.handles + into_iter_len rest ≡ length seats;
      next : (k : ℕ) (s : SeatView) → k < into_iter_len rest → get_or (into_iter_items rest) k s ≡ get_or seats (vec_len l.handles + k) s;
      started : (k : ℕ) (d : _) (s : SeatView) → k < vec_len l.handles → (get_or l.handles.items k d).promise.seat.value ≡ get_or seats k s;
      room : length seats ≤ vec_capacity l.handles;
    }
