use Rattle.std.specs.Char.{digit_value}
use Rattle.std.proofs.Common.{ℕ, suc, List, ◌≡◌, ◌+◌, ◌*◌, ◌<◌, length, get_or, drop, refl, subst, arith}
use Rattle.std.proofs.Math.Seq.{drop-cons}
use Rattle.json_order.specs.Grammar.{IsHex}
use Rattle.json_order.proofs.escape.four_digits.Goals as goal

-- the digit at i, and the digits behind it
digit_at : (bytes after : List ℕ) (i count high n d : ℕ) → i < length bytes → (d ≡ digit_value (get_or bytes i 0)) × (d < 16) → IsHex count (16 * high + digit_value (get_or bytes i 0)) n (drop (suc i) bytes) after → IsHex (suc count) high n (drop i bytes) after
digit_at bytes after i count high n d within h more = (
  get_or bytes i 0,
  drop (suc i) bytes,
  drop-cons bytes i 0 within,
  subst (λ (m : ℕ). m < 16) h.0 h.1,
  more,
)

pub returns-clause-digits : goal.returns-clause-digits
returns-clause-digits c =
    let bytes : List ℕ = c.args.bytes.now in
    let after : List ℕ = drop 4 bytes in
    let within : (i : ℕ) → i < 4 → i < length bytes = λ i h. omega (arith, c.if-bytes-lt4.false, h) in
    let n : ℕ = 16 * (16 * (16 * c.in_ok-a.a + c.in_ok-b.b) + c.in_ok-c.c) + c.in_ok-d.d in
    let at : (i : ℕ) → ℕ = λ i. digit_value (get_or bytes i 0) in
    digit_at bytes after 0 3 0 n c.in_ok-a.a (within 0 (omega arith)) c.in_ok-a.ensures
    (digit_at bytes after 1 2 (16 * 0 + at 0) n c.in_ok-b.b (within 1 (omega arith)) c.in_ok-b.ensures
    (digit_at bytes after 2 1 (16 * (16 * 0 + at 0) + at 1) n c.in_ok-c.c (within 2 (omega arith)) c.in_ok-c.ensures
    (digit_at bytes after 3 0 (16 * (16 * (16 * 0 + at 0) + at 1) + at 2) n c.in_ok-d.d (within 3 (omega arith)) c.in_ok-d.ensures ((omega (arith, c.in_ok-a.ensures.0, c.in_ok-b.ensures.0, c.in_ok-c.ensures.0, c.in_ok-d.ensures.0)), refl))))

-- The bounds, from what each digit's call says. Here and below omega stands in place of a search, for speed.
pub overflow_mul-result : goal.overflow_mul-result
overflow_mul-result c = omega (arith, c.in_ok-a.ensures.1)

pub overflow_add-result : goal.overflow_add-result
overflow_add-result c = omega (arith, c.in_ok-a.ensures.1, c.in_ok-b.ensures.1)

pub overflow_mul-result-2 : goal.overflow_mul-result-2
overflow_mul-result-2 c = omega (arith, c.in_ok-a.ensures.1, c.in_ok-b.ensures.1)

pub overflow_add-result-2 : goal.overflow_add-result-2
overflow_add-result-2 c = omega (arith, c.in_ok-a.ensures.1, c.in_ok-b.ensures.1, c.in_ok-c.ensures.1)

pub overflow_mul-result-3 : goal.overflow_mul-result-3
overflow_mul-result-3 c = omega (arith, c.in_ok-a.ensures.1, c.in_ok-b.ensures.1, c.in_ok-c.ensures.1)

pub overflow_add-result-3 : goal.overflow_add-result-3
overflow_add-result-3 c = omega (arith, c.in_ok-a.ensures.1, c.in_ok-b.ensures.1, c.in_ok-c.ensures.1, c.in_ok-d.ensures.1)

pub returns-clause-unit : goal.returns-clause-unit
returns-clause-unit c = omega (arith, c.in_ok-a.ensures.1, c.in_ok-b.ensures.1, c.in_ok-c.ensures.1, c.in_ok-d.ensures.1)
