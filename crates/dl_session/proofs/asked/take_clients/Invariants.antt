use Rattle.std.proofs.Common.{◌≡◌, ◌≤◌, ◌<◌, ◌+◌, ℕ, length}
use Rattle.std.specs.Prelude.{true, false, slice_index_or, vec_capacity}
use Rattle.session.specs.Asks.{ClientView}
use Rattle.session.specs.Clients.{IsNew}
use Rattle.dl_session.proofs.asked.take_clients.Given as goal

abbrev pub invariant-loop-place : goal.invariant-loop-place
invariant-loop-place g l = record {
  count : length l.clients.items ≡ l.place;
  room : l.fn.many ≤ vec_capacity l.clients;
  known : length l.session ≡ l.fn.many;
  waiting : (i : ℕ) → l.place ≤ i → i < l.fn.many → slice_index_or l.session i false ≡ true;
  new : (i : ℕ) (x : ClientView) → i < length l.clients.items → IsNew g.N.Names.id (i + 1) (slice_index_or l.clients.items i x);
}
