use Rattle.std.proofs.Common.{◌≤◌, ◌*◌, ◌/◌, length, ℕ, subst, arith}
use Rattle.recorded_table.proofs.Rows.{tail_len}
use Rattle.std.proofs.Math.Nat.{div-le_of_le-mul}
use Rattle.recorded_table.proofs.spread.spread_of.Goals as goal

pub overflow_cast-result-2 : goal.overflow_cast-result-2
overflow_cast-result-2 c =
    let most : c.sum_of.result ≤ length c.args.numbers.now * 18446744073709551615 = subst (λ (n : ℕ). c.sum_of.result ≤ n * 18446744073709551615) (tail_len c.args.numbers.now c.in-len1-up.len_at_least) c.sum_of.ensures.most in
    let small : c.sum_of.result / length c.args.numbers.now ≤ 18446744073709551615 = div-le_of_le-mul (length c.args.numbers.now) most in
    omega (arith, small)
