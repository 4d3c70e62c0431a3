-- How many of rising values are at most one of them.
use Rattle.std.proofs.Common.{◌≡◌, ℕ, zero, suc, ◌+◌, ◌*◌, ◌≤◌, ◌<◌, Bool, true, false, cond, leb, List, [], ◌∷◌, length, get_or, refl, ap, ◌∙◌, subst, arith}
use Rattle.std.specs.List.Sorted.{IsNonDecreasing, IsPermutation}
use Rattle.std.proofs.lemmas.Bool.{le-leb, lt-leb}
use Rattle.std.proofs.lemmas.List.{get_or_default}
use Rattle.std.proofs.lemmas.List.Sums.{sum_by-cons}
use Rattle.std.proofs.lemmas.List.Sorted.{Contains-permutation, IsPermutation-sym, length_permutation, sum_by-IsPermutation}
use Rattle.compare_report.specs.declared.line.Spread.{Spread}
use Rattle.compare_report.specs.Quantiles.{IsQuantile, IsSpread, at_most}

rest_rises : (x : ℕ) (xs : List ℕ) → IsNonDecreasing (x ∷ xs) → IsNonDecreasing xs
rest_rises x xs up i j d le lt = up (suc i) (suc j) d (omega arith) (omega arith)

one_by_one : (x v : ℕ) (xs : List ℕ) → at_most v (x ∷ xs) ≡ cond (leb x v) 1 0 + at_most v xs
one_by_one x v xs = sum_by-cons (λ y. cond (leb y v) 1 0) x xs

one_more : (x v : ℕ) (xs : List ℕ) → x ≤ v → at_most v (x ∷ xs) ≡ 1 + at_most v xs
one_more x v xs le = one_by_one x v xs ∙ ap (λ (b : Bool). cond b 1 0 + at_most v xs) (le-leb x v le)

at_most_one_more : (x v : ℕ) (xs : List ℕ) → at_most v (x ∷ xs) ≤ 1 + at_most v xs
at_most_one_more x v xs =
    let few : cond (leb x v) 1 0 ≤ 1 = go (leb x v) in
    let e = one_by_one x v xs in
    omega (arith, few, e)
  where
    go : (b : Bool) → cond b 1 0 ≤ 1
    go true = omega arith
    go false = omega arith

-- so many at least are at most the value at a place
pub up_to : (xs : List ℕ) (i d : ℕ) → IsNonDecreasing xs → i < length xs → i + 1 ≤ at_most (get_or xs i d) xs
up_to [] i d up lt = absurd (omega arith)
up_to (x ∷ xs) zero d up lt = let e = one_more x x xs (omega arith) in omega (arith, e)
up_to (x ∷ xs) (suc i) d up lt =
    let first : x ≤ get_or xs i d = up 0 (suc i) d (omega arith) lt in
    let e = one_more x (get_or xs i d) xs first in
    let rest = up_to xs i d (rest_rises x xs up) (omega arith) in
    omega (arith, e, rest)

nothing_below : (xs : List ℕ) (w : ℕ) → ((k d : ℕ) → k < length xs → w < get_or xs k d) → at_most w xs ≡ 0
nothing_below [] w above = refl
nothing_below (x ∷ xs) w above =
    let e : at_most w (x ∷ xs) ≡ cond false 1 0 + at_most w xs = one_by_one x w xs ∙ ap (λ (b : Bool). cond b 1 0 + at_most w xs) (lt-leb x w (above 0 0 (omega arith))) in
    let rest = nothing_below xs w (λ k d lt. above (suc k) d (omega arith)) in
    omega (arith, e, rest)

-- no more than stand before it are at most a smaller value
pub below : (xs : List ℕ) (i d w : ℕ) → IsNonDecreasing xs → i < length xs → w < get_or xs i d → at_most w xs ≤ i
below [] i d w up lt less = absurd (omega arith)
below (x ∷ xs) zero d w up lt less =
    let none = nothing_below (x ∷ xs) w (λ k e inside. let le = up 0 k e (omega arith) inside in omega (arith, le, less)) in
    omega (arith, none)
below (x ∷ xs) (suc i) d w up lt less =
    let rest = below xs i d w (rest_rises x xs up) (omega arith) less in
    let more = at_most_one_more x w xs in
    omega (arith, rest, more)

-- a quantile of values in another order
pub reordered : (h : ℕ) (xs ys : List ℕ) (v : ℕ) → IsPermutation xs ys → IsQuantile h ys v → IsQuantile h xs v
reordered h xs ys v moved q =
    let many : length ys ≡ length xs = length_permutation xs ys moved in
    let counts : (w : ℕ) → at_most w ys ≡ at_most w xs = λ w. sum_by-IsPermutation (λ x. cond (leb x w) 1 0) xs ys moved in
    record {
      among = Contains-permutation ys xs v (IsPermutation-sym xs ys moved) q.among;
      enough = subst (λ n. h * n ≤ 100 * at_most v xs) many (subst (λ n. h * length ys ≤ 100 * n) (counts v) q.enough);
      least = λ w less. subst (λ n. 100 * at_most w xs < h * n) many (subst (λ n. 100 * n < h * length ys) (counts w) (q.least w less));
    }

pub spread_reordered : (xs ys : List ℕ) (s : Spread) → IsPermutation xs ys → IsSpread ys s → IsSpread xs s
spread_reordered xs ys s moved is = record {
  half = reordered 50 xs ys s.half moved is.half;
  most = reordered 95 xs ys s.most moved is.most;
  max = reordered 100 xs ys s.max moved is.max;
}

-- the value at the last of the places that so many of a hundred need
pub quantile_at : (h : ℕ) (xs : List ℕ) (i : ℕ) → IsNonDecreasing xs → i < length xs → h * length xs ≤ 100 * (i + 1) → 100 * i < h * length xs → IsQuantile h xs (get_or xs i 0)
quantile_at h xs i up there enough least =
    let all = h * length xs in
    record {
      among = (i, there, get_or_default xs i (get_or xs i 0) 0 there);
      enough = let many = up_to xs i 0 up there in omega (arith, enough, many);
      least = λ w less. let few = below xs i 0 w up there less in omega (arith, few, least);
    }
