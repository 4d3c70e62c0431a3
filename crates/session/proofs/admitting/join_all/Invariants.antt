use Rattle.std.proofs.Common.{◌≡◌, ◌+◌, ◌≤◌, ◌<◌, ℕ, length, get_or, vec_len, vec_capacity}
use Rattle.std.specs.Vec.Iter.{into_iter_items, into_iter_len}
use Rattle.session.specs.Asks.{ClientView}
use Rattle.session.specs.private.Admitting.{AsksSeat}
use Rattle.session.proofs.admitting.join_all.Given as goal

-- so many clients are back with their answers, and the other threads are still to be joined
abbrev pub invariant-loop-handle : goal.invariant-loop-handle
invariant-loop-handle g l =
    let handles = l.fn.handles.items in let rest = l.handle-iterator in let done = vec_len l.joined.clients in record {
      left : done + into_iter_len rest ≡ length handles;
      shared : vec_len l.joined.shares ≡ done;
      next : (k : ℕ) (d : _) → k < into_iter_len rest → get_or (into_iter_items rest) k d ≡ get_or handles (done + k) d;
      asked : (k : ℕ) (d : _) (x : ClientView) (y : _) → k < done
          → AsksSeat g.N.Names.id g.A.TasksBrand.tasks (get_or handles k d).promise.seat.value (get_or l.joined.clients.items k x) (get_or l.joined.shares.items k y).items;
      room : length handles ≤ vec_capacity l.joined.clients;
      space : length handles ≤ vec_capacity l.joined.shares;
    }
