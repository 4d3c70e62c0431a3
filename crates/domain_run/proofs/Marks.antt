-- Marks and the numbers that they run for.
use Rattle.std.proofs.Common.{◌≡◌, ◌≢◌, ℕ, zero, suc, ◌+◌, ◌<◌, ◌≤◌, Bool, true, false, cond, eqb, List, [], ◌∷◌, ◌++◌, length, take, get_or, set, replicate, refl, sym, ap, ◌∙◌, arith, eq-eqb}
use Rattle.std.specs.Prelude.{All, AllPairs}
use Rattle.std.specs.List.{list_any}
use Rattle.std.proofs.lemmas.Bool.{lt-ltb, le-ltb, ne_eqb}
use Rattle.std.proofs.lemmas.List.Elements.{All-nil, All-cons, All-weaker}
use Rattle.std.proofs.lemmas.List.Kept.{AllPairs-cons}
use Rattle.domain_run.specs.private.Numbers.{numbers_marked}
use Rattle.domain_run.specs.Calls.{with_number}

pub marked_none : (from n : ℕ) → numbers_marked from (replicate n false) ≡ []
marked_none from zero = refl
marked_none from (suc n) = marked_none (from + 1) n

pub marked_no : (bs : List Bool) (n : ℕ) → bs ≡ replicate n false → numbers_marked 0 bs ≡ []
marked_no bs n e = ap (numbers_marked 0) e ∙ marked_none 0 n

-- no mark below the first place
none_below : (from : ℕ) (bs : List Bool) (n : ℕ) → n < from → list_any (λ m. eqb m n) (numbers_marked from bs) ≡ false
none_below from [] n h = refl
none_below from (true ∷ bs) n h = rw (ne_eqb from n (λ e. absurd (omega arith))) (none_below (from + 1) bs n (omega arith))
none_below from (false ∷ bs) n h = none_below (from + 1) bs n (omega arith)

pub marked_contains : (from : ℕ) (bs : List Bool) (k n : ℕ) → n ≡ from + k → list_any (λ m. eqb m n) (numbers_marked from bs) ≡ get_or bs k false
marked_contains from [] k n e = refl
marked_contains from (true ∷ bs) zero n e = let same : from ≡ n = omega arith in rw (eq-eqb from n same) refl
marked_contains from (true ∷ bs) (suc k) n e = rw (ne_eqb from n (λ q. absurd (omega arith))) (marked_contains (from + 1) bs k n (omega arith))
marked_contains from (false ∷ bs) zero n e = none_below (from + 1) bs n (omega arith)
marked_contains from (false ∷ bs) (suc k) n e = marked_contains (from + 1) bs k n (omega arith)

first : (from : ℕ) (bs : List Bool) (n : ℕ) → n < from → with_number n (numbers_marked from bs) ≡ n ∷ numbers_marked from bs
first from [] n h = refl
first from (true ∷ bs) n h = rw (lt-ltb n from h) refl
first from (false ∷ bs) n h = first (from + 1) bs n (omega arith)

pub marked_set : (from : ℕ) (bs : List Bool) (k n : ℕ) → n ≡ from + k → k < length bs → get_or bs k false ≡ false → numbers_marked from (set bs k true) ≡ with_number n (numbers_marked from bs)
marked_set from [] k n e h free = absurd (omega arith)
marked_set from (true ∷ bs) zero n e h free = absurd cc
marked_set from (true ∷ bs) (suc k) n e h free = rw (le-ltb n from (omega arith)) (ap (λ (ms : List ℕ). from ∷ ms) (marked_set (from + 1) bs k n (omega arith) (omega arith) free))
marked_set from (false ∷ bs) zero n e h free = let same : n ≡ from = omega arith in rw same (sym (first (from + 1) bs from (omega arith)))
marked_set from (false ∷ bs) (suc k) n e h free = marked_set (from + 1) bs k n (omega arith) (omega arith) free

-- one place more
pub marked_next : (from : ℕ) (bs : List Bool) (k m n : ℕ) → n ≡ from + k → m ≡ k + 1 → k < length bs → numbers_marked from (take m bs) ≡ numbers_marked from (take k bs) ++ cond (get_or bs k false) (n ∷ []) []
marked_next from [] k m n e f h = absurd (omega arith)
marked_next from (b ∷ bs) k zero n e f h = absurd (omega arith)
marked_next from (true ∷ bs) zero (suc m) n e f h = let same : n ≡ from = omega arith in let none : m ≡ 0 = omega (arith, f) in rw (same, none) refl
marked_next from (false ∷ bs) zero (suc m) n e f h = let none : m ≡ 0 = omega (arith, f) in rw none refl
marked_next from (true ∷ bs) (suc k) (suc m) n e f h = ap (λ (ms : List ℕ). from ∷ ms) (marked_next (from + 1) bs k m n (omega arith) (omega (arith, f)) (omega arith))
marked_next from (false ∷ bs) (suc k) (suc m) n e f h = marked_next (from + 1) bs k m n (omega arith) (omega (arith, f)) (omega arith)

-- each is a place of the marks
pub marked_within : (from end : ℕ) (bs : List Bool) → from + length bs ≤ end → All (λ n. (from ≤ n) × (n < end)) (numbers_marked from bs)
marked_within from end [] h = All-nil (λ n. (from ≤ n) × (n < end))
marked_within from end (true ∷ bs) h =
    All-cons (λ n. (from ≤ n) × (n < end)) from (numbers_marked (from + 1) bs) (omega arith, omega (arith, h))
    (All-weaker (λ n. (from + 1 ≤ n) × (n < end)) (λ n. (from ≤ n) × (n < end)) (λ n p. (omega (arith, p.0), p.1)) (numbers_marked (from + 1) bs) (marked_within (from + 1) end bs (omega (arith, h))))
marked_within from end (false ∷ bs) h =
    All-weaker (λ n. (from + 1 ≤ n) × (n < end)) (λ n. (from ≤ n) × (n < end)) (λ n p. (omega (arith, p.0), p.1)) (numbers_marked (from + 1) bs) (marked_within (from + 1) end bs (omega (arith, h)))

pub marked_apart : (from : ℕ) (bs : List Bool) → AllPairs (λ (a b : ℕ). a ≢ b) (numbers_marked from bs)
marked_apart from [] = λ i j d less within. absurd (omega arith)
marked_apart from (true ∷ bs) =
    AllPairs-cons (λ (a b : ℕ). a ≢ b) from (numbers_marked (from + 1) bs)
    (All-weaker (λ n. (from + 1 ≤ n) × (n < from + 1 + length bs)) (λ n. from ≢ n) (λ n p. λ e. absurd (omega (arith, p.0, e))) (numbers_marked (from + 1) bs) (marked_within (from + 1) (from + 1 + length bs) bs (omega arith)))
    (marked_apart (from + 1) bs)
marked_apart from (false ∷ bs) = marked_apart (from + 1) bs
