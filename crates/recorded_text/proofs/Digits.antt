-- Digits, and the number that they spell.
use Rattle.std.proofs.Common.{ℕ, ◌^◌, ◌≤◌, ◌<◌, arith}
use Rattle.std.proofs.Math.Nat.{pow-le-pow_right}

-- what is below such a power of ten is below 10^18
pub digits_fit : (n i : ℕ) → n < 10 ^ i → i ≤ 18 → n < 1000000000000000000
digits_fit n i h l =
    let wide : 10 ^ i ≤ 10 ^ 18 = pow-le-pow_right {n = 10} (omega arith) l in
    omega (arith, wide)
