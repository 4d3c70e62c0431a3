use Rattle.std.proofs.Common.{◌≡◌, replicate, false, vec_len}
use Rattle.std.specs.Prelude.{vec_capacity}
use Rattle.domain_run.proofs.numbers.no_marks.Given as goal

abbrev pub invariant-loop : goal.invariant-loop
invariant-loop l = record {
  marks : l.marks.items ≡ replicate l.counter false;
  len : vec_len l.marks ≡ l.counter;
  room : vec_capacity l.marks ≡ l.count;
}
