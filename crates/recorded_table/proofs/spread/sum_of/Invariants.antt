use Rattle.std.proofs.Common.{◌≡◌, ◌≤◌, ◌*◌, ◌+◌, length, drop, ℕ}
use Rattle.std.specs.Prelude.{fold}
use Rattle.recorded_table.proofs.spread.sum_of.Given as goal

abbrev pub invariant-loop-n : goal.invariant-loop-n
invariant-loop-n l = record {
  within : l.n-index ≤ length l.others;
  most : l.sum ≤ (l.n-index + 1) * 18446744073709551615;
  sum : fold (λ (a b : ℕ). a + b) l.sum (drop l.n-index l.others) ≡ fold (λ (a b : ℕ). a + b) l.first l.others;
}
