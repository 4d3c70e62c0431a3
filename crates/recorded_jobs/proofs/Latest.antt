-- The latest of times that are in order.
use Rattle.std.proofs.Common.{◌≡◌, ℕ, zero, suc, ◌<◌, ◌≤◌, inl, inr, ⊎_elim, Bool, true, false, List, [], ◌∷◌, length, get_or, Option, Some, None, refl, sym, ap, ◌∙◌, arith}
use Rattle.std.specs.Prelude.{nat_le, ◌⊎◌, ◌&&◌}
use Rattle.std.specs.List.Sorted.{IsNonDecreasing}
use Rattle.std.proofs.lemmas.Bool.{cases_Bool, cases_lt, le-leb, lt-leb}
use Rattle.recorded_jobs.specs.Releases.{latest_between}

and_no : (b : Bool) → (b && false) ≡ false
and_no true = refl
and_no false = refl

-- none of the times is within the bounds
pub none_within : (after start : ℕ) (ws : List ℕ) → ((k : ℕ) → k < length ws → (get_or ws k 0 < after) ⊎ (start < get_or ws k 0)) → latest_between after start ws ≡ None
unfolding latest_between
none_within after start [] h = refl
none_within after start (w ∷ ws) h =
    let rest = none_within after start ws (λ k l. h (suc k) (omega (arith, l))) in
    ⊎_elim
    (λ low. rw (rest, lt-leb after w low) refl)
    (λ high. rw (rest, lt-leb w start high, and_no (nat_le after w)) refl)
    (h 0 (omega arith))

-- the last of those that are not after the bound
pub latest_is : (after start : ℕ) (ws : List ℕ) (j : ℕ) → j < length ws → get_or ws j 0 ≤ start → ((k : ℕ) → j < k → k < length ws → start < get_or ws k 0) → after ≤ get_or ws j 0 → latest_between after start ws ≡ Some (get_or ws j 0)
unfolding latest_between
latest_is after start [] j l here later low = absurd (omega (arith, l))
latest_is after start (w ∷ ws) zero l here later low =
    let rest = none_within after start ws (λ k m. inr (later (suc k) (omega arith) (omega (arith, m)))) in
    rw (rest, le-leb after w low, le-leb w start here) refl
latest_is after start (w ∷ ws) (suc j) l here later low =
    let rest = latest_is after start ws j (omega (arith, l)) here (λ k less m. later (suc k) (omega (arith, less)) (omega (arith, m))) low in
    rw rest refl

-- if that one is too early, all are
pub none_is : (after start : ℕ) (ws : List ℕ) (j : ℕ) → IsNonDecreasing ws → j < length ws → ((k : ℕ) → j < k → k < length ws → start < get_or ws k 0) → get_or ws j 0 < after → latest_between after start ws ≡ None
none_is after start ws j order l later early =
    none_within after start ws (λ k m. ⊎_elim (λ past. inr (later k past m)) (λ before. inl (let up = order k j 0 before l in omega (arith, up, early))) (cases_lt j k))
