use Rattle.std.proofs.Common.{◌≡◌, ◌+◌, ◌≤◌, ◌<◌, ℕ, length, get_or, vec_len, vec_capacity}
use Rattle.std.specs.Vec.Iter.{into_iter_items, into_iter_len}
use Rattle.session.specs.Asks.{ClientView}
use Rattle.session.specs.private.Admitting.{SeatView, IsSeat}
use Rattle.session.proofs.admitting.seat_all.Given as goal

-- so many clients have their seats, and the others wait
abbrev pub invariant-loop-client : goal.invariant-loop-client
invariant-loop-client g l =
    let clients = l.fn.clients.items in let rest = l.client-iterator in record {
      left : vec_len l.seats + into_iter_len rest ≡ length clients;
      next : (k : ℕ) (x : ClientView) → k < into_iter_len rest → get_or (into_iter_items rest) k x ≡ get_or clients (vec_len l.seats + k) x;
      assigned : (i : ℕ) (x : ClientView) (s : SeatView) → i < vec_len l.seats → IsSeat l.tasks (length clients) i (get_or clients i x) (get_or l.seats.items i s);
      room : length clients ≤ vec_capacity l.seats;
      many : l.many ≡ length clients;
    }
