use Rattle.std.proofs.Common.{◌≡◌, replicate, vec_len}
use Rattle.std.specs.Prelude.{vec_capacity}
use Rattle.grub_rules.proofs.accounts.zeros.Given as goal

abbrev pub invariant-loop : goal.invariant-loop
invariant-loop l = record {
  sums : l.sums.items ≡ replicate l.counter 0;
  len : vec_len l.sums ≡ l.counter;
  room : vec_capacity l.sums ≡ l.cpus;
}
