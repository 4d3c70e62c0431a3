use Rattle.std.proofs.Common.{◌≡◌, length, vec_len}
use Rattle.std.specs.Prelude.{vec_capacity}
use Rattle.edf_pick.proofs.room.places.Given as goal

abbrev pub invariant-loop : goal.invariant-loop
invariant-loop l = record {
  full : length l.tasks.items ≡ l.counter;
  len : vec_len l.tasks ≡ l.counter;
  room : vec_capacity l.tasks ≡ 1024;
}
