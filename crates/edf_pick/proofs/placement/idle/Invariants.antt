use Rattle.std.proofs.Common.{◌≡◌, replicate, vec_len}
use Rattle.std.specs.Prelude.{vec_capacity, None}
use Rattle.edf_pick.proofs.placement.idle.Given as goal

abbrev pub invariant-loop : goal.invariant-loop
invariant-loop l = record {
  places : l.places.items ≡ replicate l.counter None;
  len : vec_len l.places ≡ l.counter;
  room : vec_capacity l.places ≡ l.cpus;
}
