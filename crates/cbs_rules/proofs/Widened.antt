-- Numbers widened to signed ones of 128 bits, which goals show written as bits and read back.
use Rattle.std.proofs.Common.{◌≡◌, ℕ, ◌*◌, ◌^◌, ◌<◌, ◌≤◌, ap, ◌∙◌, arith}
use Rattle.std.specs.Prelude.{ℤ, pos, negsuc, neg_ℤ, ◌+ℤ◌, ◌-ℤ◌, ◌*ℤ◌, ◌≤ℤ◌}
use Rattle.std.specs.Int.RustNames.{FitsSigned}
use Rattle.std.proofs.lemmas.Int.{ints, to_z-of_z, fits_signed_mul}
use Rattle.cbs_rules.specs.Budget.{below_zero}
use lib.IntN.{nat_abs}
use lib.Dec.{T}
use lib.Signed.{non_neg}
use mir.Syntax.{w64, w128}
use mir.Val.{Fits, to_z, of_z}

-- what is written as bits and read back
abbrev pub again : ℤ → ℤ
again z = to_z w128 (of_z w128 z)

pub natural_fits : (z : ℤ) (n : ℕ) → z ≡ pos n → n < 2 ^ 127 → FitsSigned w128 z
natural_fits z n e small = rw e (record { sfits = small })

pub natural_again : (z : ℤ) (n : ℕ) → z ≡ pos n → n < 2 ^ 127 → again z ≡ pos n
natural_again z n e small = to_z-of_z w128 z (natural_fits z n e small) ∙ e

pub near_again : (z : ℤ) → neg_ℤ (pos (2 ^ 63)) ≤ℤ z → z ≤ℤ pos (2 ^ 63) → again z ≡ z
near_again z low high = to_z-of_z w128 z (omega (arith, ints))

pub product_is : (x y : ℤ) (m n : ℕ) → x ≡ pos m → y ≡ pos n → m < 2 ^ 64 → n < 2 ^ 64 → again x *ℤ again y ≡ pos (m * n)
product_is x y m n a b small short =
    ap (λ (z : ℤ). z *ℤ again y) (natural_again x m a (omega arith)) ∙ ap (λ (z : ℤ). pos m *ℤ z) (natural_again y n b (omega arith))

pub difference_is : (z x : ℤ) (n : ℕ) → neg_ℤ (pos (2 ^ 63)) ≤ℤ z → z ≤ℤ pos (2 ^ 63) → x ≡ pos n → n < 2 ^ 100 → again z -ℤ again x ≡ z -ℤ pos n
difference_is z x n low high e small =
    ap (λ (y : ℤ). y -ℤ again x) (near_again z low high) ∙ ap (λ (y : ℤ). z -ℤ y) (natural_again x n e (omega arith))

pub difference_fits : (z x : ℤ) (n : ℕ) → neg_ℤ (pos (2 ^ 63)) ≤ℤ z → z ≤ℤ pos (2 ^ 63) → x ≡ z -ℤ pos n → n < 2 ^ 100 → FitsSigned w128 x
difference_fits z x n low high e small = rw e (omega (arith, ints))

pub sum_is : (z x : ℤ) (n : ℕ) → neg_ℤ (pos (2 ^ 63)) ≤ℤ z → z ≤ℤ pos (2 ^ 63) → x ≡ pos n → n < 2 ^ 100 → again z +ℤ again x ≡ z +ℤ pos n
sum_is z x n low high e small =
    ap (λ (y : ℤ). y +ℤ again x) (near_again z low high) ∙ ap (λ (y : ℤ). z +ℤ y) (natural_again x n e (omega arith))

pub sum_fits : (z x : ℤ) (n : ℕ) → neg_ℤ (pos (2 ^ 63)) ≤ℤ z → z ≤ℤ pos (2 ^ 63) → x ≡ z +ℤ pos n → n < 2 ^ 100 → FitsSigned w128 x
sum_fits z x n low high e small = rw e (omega (arith, ints))

pub scaled : (z x : ℤ) (n : ℕ) → neg_ℤ (pos (2 ^ 63)) ≤ℤ z → z ≤ℤ pos (2 ^ 63) → x ≡ pos n → n < 2 ^ 64 → again z *ℤ again x ≡ z *ℤ pos n
scaled z x n low high e small =
    ap (λ (y : ℤ). y *ℤ again x) (near_again z low high) ∙ ap (λ (y : ℤ). z *ℤ y) (natural_again x n e (omega arith))

pub scaled_fits : (z x : ℤ) (n : ℕ) → neg_ℤ (pos (2 ^ 63)) ≤ℤ z → z ≤ℤ pos (2 ^ 63) → x ≡ z *ℤ pos n → n ≤ 2 ^ 32 → FitsSigned w128 x
scaled_fits z x n low high e small =
    rw e (fits_signed_mul w128 z (pos n) (2 ^ 63) (2 ^ 32) (omega (arith, ints)) small (omega arith))

-- how far a number is below zero
flipped : (z : ℤ) → z ≤ℤ pos 0 → pos 0 -ℤ z ≡ pos (below_zero z)
flipped (pos n) h = omega (arith, ints)
flipped (negsuc n) h = omega (arith, ints)

pub below_small : (z : ℤ) → neg_ℤ (pos (2 ^ 32)) ≤ℤ z → below_zero z ≤ 2 ^ 32
below_small (pos n) h = omega arith
below_small (negsuc n) h = omega (arith, ints)

pub negated : (z : ℤ) → z ≤ℤ pos 0 → neg_ℤ (pos (2 ^ 32)) ≤ℤ z → pos 0 -ℤ again z ≡ pos (below_zero z)
negated z high low = ap (λ (y : ℤ). pos 0 -ℤ y) (near_again z (omega (arith, ints)) (omega (arith, ints))) ∙ flipped z high

pub size : (z : ℤ) → z ≤ℤ pos 0 → neg_ℤ (pos (2 ^ 32)) ≤ℤ z → nat_abs (again (pos 0 -ℤ again z)) ≡ below_zero z
size z high low = ap nat_abs (natural_again _ (below_zero z) (negated z high low) (omega (arith, below_small z low)))

pub cast_fits : (z : ℤ) (n : ℕ) → z ≡ pos n → n < 2 ^ 64 → T (non_neg z) × Fits w64 (nat_abs z)
cast_fits z n e small = rw e (tt, record { fits = small })
