-- From a node of a timer tree up, over all nodes below it.
use Rattle.std.proofs.Common.{◌≡◌, ℕ, zero, suc, ◌+◌, ◌*◌, ◌/◌, ◌^◌, ◌<◌, ◌≤◌, List, length, get_or, sym, ap, ◌∙◌, arith, subst, inl, inr}
use Rattle.std.proofs.lemmas.Grind.{pow_more}
use Rattle.std.proofs.lemmas.Nat.{mul-le}
use Rattle.std.proofs.lemmas.Bool.{cases_lt}
use Rattle.due_times.specs.private.TimerTree.{IsLeast, IsTimerTreeOf}

-- a node is not after any of those that are so many wide below it
pub record Covers (nodes : List ℕ) (at span : ℕ) : Type 0 where
  pub each : (q : ℕ) → at * span ≤ q → q < (at + 1) * span → q < length nodes → get_or nodes at 0 ≤ get_or nodes q 0

pub covers_one : (nodes : List ℕ) (at : ℕ) → Covers nodes at 1
covers_one nodes at = record {
  each = λ q low high within. let same : q ≡ at = omega (arith, low, high) in subst (λ k. get_or nodes at 0 ≤ get_or nodes k 0) (sym same) (omega arith);
}

some_span : (b span : ℕ) → b * (span * 4) < (b + 1) * (span * 4) → 1 ≤ span
some_span b zero h = absurd (omega (arith, h))
some_span b (suc n) h = omega arith

inner : (nodes : List ℕ) (b span q : ℕ) → IsTimerTreeOf nodes → b * (span * 4) ≤ q → q < (b + 1) * (span * 4) → q < length nodes → b < length nodes / 4
inner nodes b span q is low high within =
    let some = some_span b span (omega (arith, low, high)) in
    let wide = mul-le (4 * b) 1 (4 * b) span (omega arith) some in
    omega (arith, low, wide, within, is.fours)

-- what is below a node is below one of its four
pub covers_fours : (nodes : List ℕ) (span : ℕ) → IsTimerTreeOf nodes → ((b : ℕ) → 1 ≤ b → Covers nodes b span) → (b : ℕ) → 1 ≤ b → Covers nodes b (span * 4)
covers_fours nodes span is covers b one = record {
  each = λ q low high within.
      let here : IsLeast nodes b = is.each b one (inner nodes b span q is low high within) (λ z. absurd (omega (arith, z, one))) in
      elim (cases_lt q ((4 * b + 1) * span)) [
        | inl first ↦
            let below = (covers (4 * b) (omega (arith, one))).each q (omega (arith, low)) first within in
            omega (arith, here, below)
        | inr from_second ↦ elim (cases_lt q ((4 * b + 2) * span)) [
          | inl second ↦
              let below = (covers (4 * b + 1) (omega arith)).each q from_second (omega (arith, second)) within in
              omega (arith, here, below)
          | inr from_third ↦ elim (cases_lt q ((4 * b + 3) * span)) [
            | inl third ↦
                let below = (covers (4 * b + 2) (omega arith)).each q from_third (omega (arith, third)) within in
                omega (arith, here, below)
            | inr last ↦
                let below = (covers (4 * b + 3) (omega arith)).each q last (omega (arith, high)) within in
                omega (arith, here, below)
          ]
        ]
      ];
}

pub four_times : (k : ℕ) → 4 ^ (k + 1) ≡ 4 ^ k * 4
four_times k = pow_more 4 k

pub some_wide : (k : ℕ) → 1 ≤ 4 ^ k
some_wide zero = omega arith
some_wide (suc k) =
    let more : suc k ≡ k + 1 = omega arith in
    let wide : 4 ^ suc k ≡ 4 ^ k * 4 = ap (λ n. 4 ^ n) more ∙ four_times k in
    omega (arith, wide, some_wide k)

pub covers_pow : (nodes : List ℕ) → IsTimerTreeOf nodes → (k b : ℕ) → 1 ≤ b → Covers nodes b (4 ^ k)
covers_pow nodes is zero b one = covers_one nodes b
covers_pow nodes is (suc k) b one =
    let more : k + 1 ≡ suc k = omega arith in
    subst (Covers nodes b) (ap (λ n. 4 ^ n) more) (subst (Covers nodes b) (sym (four_times k)) (covers_fours nodes (4 ^ k) is (covers_pow nodes is k) b one))

-- one node up
pub climbs_low : (at span from : ℕ) → at * span ≤ from → (at / 4) * (span * 4) ≤ from
climbs_low at span from low =
    let less = mul-le (4 * (at / 4)) span at span (omega arith) (omega arith) in
    omega (arith, low, less)

pub climbs_high : (at span from : ℕ) → from < (at + 1) * span → from < (at / 4 + 1) * (span * 4)
climbs_high at span from high =
    let more = mul-le (at + 1) span (4 * (at / 4) + 4) span (omega arith) (omega arith) in
    omega (arith, high, more)

pub climbs_short : (at span from : ℕ) → 3 < at → at * span ≤ from → span * 4 ≤ from
climbs_short at span from four low =
    let less = mul-le 4 span at span (omega (arith, four)) (omega arith) in
    omega (arith, low, less)

-- one node down
pub down_low : (low at next s : ℕ) → low ≤ at * (s * 4) → 4 * at ≤ next → low ≤ next * s
down_low low at next s h from =
    let more = mul-le (4 * at) s next s from (omega arith) in
    omega (arith, h, more)

pub down_high : (high at next s : ℕ) → (at + 1) * (s * 4) ≤ high → next ≤ 4 * at + 3 → (next + 1) * s ≤ high
down_high high at next s h upto =
    let less = mul-le (next + 1) s (4 * at + 4) s (omega (arith, upto)) (omega arith) in
    omega (arith, h, less)

pub down_inner : (nodes : List ℕ) (at s : ℕ) → 1 ≤ s → IsTimerTreeOf nodes → (at + 1) * (s * 4) ≤ length nodes → at < length nodes / 4
down_inner nodes at s some is high =
    let most = mul-le (4 * at + 4) 1 (4 * at + 4) s (omega arith) some in
    omega (arith, most, high, is.fours)
