-- Words of 64 marks.
use Rattle.std.proofs.Common.{◌≡◌, ◌≢◌, ◌<◌, ◌≤◌, ◌∙◌, ◌+◌, ◌-◌, ◌*◌, ◌%◌, ◌^◌, ℕ, bit_and, sym, ap, inl, inr, arith, w64}
use Rattle.std.specs.Int.{bit_at, bit_not, trailing_ones}
use Rattle.std.specs.Int.Count.{trailing_of_zero}
use Rattle.std.proofs.lemmas.Bool.{cases_lt, cases_eq}
use Rattle.std.proofs.lemmas.Nat.{and_le_l}
use Rattle.std.proofs.lemmas.Nat.Bits.{bit_at_clear_same, bit_at_clear_other, bit_at_above, bit_at_and, bit_at_not, bit_at-lt, bit_at_ones, bit_at-trailing_ones}

-- a word has no mark from 64 on
pub none_above : (marks i : ℕ) → marks < 2 ^ 64 → 64 ≤ i → bit_at marks i ≡ 0
none_above marks i fits past = bit_at_above marks 64 i fits past

pub cleared_others : (marks place i : ℕ) → marks < 2 ^ 64 → place < 64 → i ≢ place → bit_at (bit_and marks (bit_not w64 (1 * 2 ^ place % 2 ^ 64))) i ≡ bit_at marks i
cleared_others marks place i fits within apart =
    elim (cases_lt i 64) [
      | inl h ↦ bit_at_clear_other w64 marks place within i h apart
      | inr h ↦
          let less = and_le_l marks (bit_not w64 (1 * 2 ^ place % 2 ^ 64)) in
          none_above (bit_and marks (bit_not w64 (1 * 2 ^ place % 2 ^ 64))) i (omega (arith, less, fits)) h ∙ sym (none_above marks i fits h)
    ]

pub cleared_fewer : (marks place : ℕ) → place < 64 → bit_at marks place ≡ 1 → bit_and marks (bit_not w64 (1 * 2 ^ place % 2 ^ 64)) < marks
cleared_fewer marks place within set =
    let left : ℕ = bit_and marks (bit_not w64 (1 * 2 ^ place % 2 ^ 64)) in
    let gone : bit_at left place ≡ 0 = bit_at_clear_same w64 marks place within in
    elim (cases_eq left marks) [
      | inl same ↦ absurd (let both : bit_at left place ≡ bit_at marks place = ap (λ x. bit_at x place) same in omega arith)
      | inr other ↦ omega (arith, and_le_l marks (bit_not w64 (1 * 2 ^ place % 2 ^ 64)))
    ]

pub beyond_here : (marks others i : ℕ) → bit_at (bit_and marks (bit_not w64 others)) i ≡ 1 → bit_at marks i ≡ 1
beyond_here marks others i h = omega (arith, h, bit_at_and marks (bit_not w64 others) i, bit_at-lt marks i)

pub beyond_only : (marks others i : ℕ) → marks < 2 ^ 64 → others < 2 ^ 64 → bit_at (bit_and marks (bit_not w64 others)) i ≡ 1 → bit_at others i ≡ 0
beyond_only marks others i fits fits_others h =
    elim (cases_lt i 64) [
      | inl l ↦ omega (arith, h, bit_at_and marks (bit_not w64 others) i, bit_at_not w64 others i fits_others l, bit_at-lt others i)
      | inr l ↦ none_above others i fits_others l
    ]

pub beyond_bare : (marks others i : ℕ) → marks < 2 ^ 64 → others < 2 ^ 64 → bit_at (bit_and marks (bit_not w64 others)) i ≡ 0 → bit_at others i ≡ 0 → bit_at marks i ≡ 0
beyond_bare marks others i fits fits_others h bare =
    elim (cases_lt i 64) [
      | inl l ↦ omega (arith, h, bare, bit_at_and marks (bit_not w64 others) i, bit_at_not w64 others i fits_others l, bit_at-lt marks i)
      | inr l ↦ none_above marks i fits l
    ]

ones_all : trailing_ones w64 (2 ^ 64 - 1) ≡ 64
ones_all = trailing_of_zero 64

pub bare_first : (marks : ℕ) → marks < 2 ^ 64 → trailing_ones w64 marks < 64 → bit_at marks (trailing_ones w64 marks) ≡ 0
bare_first marks fits within =
    elim (cases_lt (marks + 1) (2 ^ 64)) [
      | inl h ↦ (bit_at-trailing_ones w64 marks h).1
      | inr h ↦
          let all : marks ≡ 2 ^ 64 - 1 = omega arith in
          let none : trailing_ones w64 marks ≡ 64 = ap (λ n. trailing_ones w64 n) all ∙ ones_all in
          absurd (omega (arith, none, within))
    ]

pub marked_before : (marks i : ℕ) → marks < 2 ^ 64 → i < trailing_ones w64 marks → bit_at marks i ≡ 1
marked_before marks i fits within =
    elim (cases_lt (marks + 1) (2 ^ 64)) [
      | inl h ↦ (bit_at-trailing_ones w64 marks h).2 i within
      | inr h ↦
          let all : marks ≡ 2 ^ 64 - 1 = omega arith in
          let none : trailing_ones w64 marks ≡ 64 = ap (λ n. trailing_ones w64 n) all ∙ ones_all in
          ap (λ n. bit_at n i) all ∙ bit_at_ones 64 i (omega (arith, none, within))
    ]
