use Rattle.std.proofs.Common.{◌≡◌, replicate, vec_len}
use Rattle.std.specs.Prelude.{None, vec_capacity}
use Rattle.due_times.proofs.charges.empty.Given as goal

abbrev pub invariant-loop : goal.invariant-loop
invariant-loop l = record {
  charges : l.charges.items ≡ replicate l.counter None;
  len : vec_len l.charges ≡ l.counter;
  room : vec_capacity l.charges ≡ l.cpus;
}
