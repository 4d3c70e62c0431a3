-- What happens at one time, sorted: it is in its order, where each two of it are apart.
use Rattle.std.proofs.Common.{◌≡◌, ℕ, zero, suc, ◌<◌, Bool, true, false, cond, List, [], ◌∷◌, length, get_or, refl, sym, subst, ap, ◌∙◌, inl, inr, arith}
use Rattle.std.specs.Prelude.{All, AllPairs, ◌⊎◌}
use Rattle.std.specs.List.{Contains, swap}
use Rattle.std.specs.List.Sorted.{IsPermutation, IsSortedBy}
use Rattle.std.proofs.lemmas.Bool.{both_ways, cases_eq, cases_order}
use Rattle.std.proofs.lemmas.List.Edits.{Swapped, swapped_from_swap, length-swap}
use Rattle.std.proofs.lemmas.List.Elements.{All-nil, All-cons, All-head, All-tail, All-weaker, All-contains, All-contains_itself}
use Rattle.std.proofs.lemmas.List.Kept.{AllPairs-cons}
use Rattle.std.proofs.lemmas.List.Sorted.{IsPermutation-refl, IsPermutation-cons, IsPermutation-middle, IsPermutation-sym, IsPermutation-trans, IsPermutation-keeps, Contains-permutation, length_permutation, sorted_far}
use Rattle.domain_run.specs.declared.happened.Happened.{Happened}
use Rattle.domain_run.specs.Happened.{is_first, with_happened, in_order}
use Rattle.domain_run.specs.private.TransitionLog.{IsApart}
use Rattle.domain_run.proofs.LoggedOrder.{first_both, reverse, other, swapped, first_order}
use Rattle.domain_run.proofs.LoggedOf.{each_placed, each_in_order}

-- ---- pairs of a list

pub pairs_first : {X : Type 0} (R : X → X → Type 0) (x : X) (xs : List X) → AllPairs R (x ∷ xs) → All (R x) xs
pairs_first R x xs all k d h = all zero (suc k) d (omega arith) (omega arith)

pub pairs_rest : {X : Type 0} (R : X → X → Type 0) (x : X) (xs : List X) → AllPairs R (x ∷ xs) → AllPairs R xs
pairs_rest R x xs all i j d less within = all (suc i) (suc j) d (omega arith) (omega arith)

pub pairs_none : {X : Type 0} (R : X → X → Type 0) → AllPairs R []
pairs_none R i j d less within = absurd (omega (arith, within))

-- ---- in its order, where each two are apart

abbrev pub IsBefore : Happened → Happened → Type 0
IsBefore a b = is_first a b ≡ true

with_first : (h : Happened) (hs : List Happened) → All (IsApart h) hs → AllPairs IsBefore hs → AllPairs IsBefore (with_happened h hs)
with_first h [] apart rising = AllPairs-cons IsBefore h [] (All-nil (IsBefore h)) rising
with_first h (o ∷ os) apart rising = by_first (is_first h o) refl (with_first h os (All-tail (IsApart h) o os apart) (pairs_rest IsBefore o os rising))
  where
    following : All (IsBefore o) os
    following = pairs_first IsBefore o os rising

    by_first : (b : Bool) → is_first h o ≡ b → AllPairs IsBefore (with_happened h os) → AllPairs IsBefore (cond b (h ∷ o ∷ os) (o ∷ with_happened h os))
    by_first true is more = AllPairs-cons IsBefore h (o ∷ os) (All-cons (IsBefore h) o os is (All-weaker (IsBefore o) (IsBefore h) (λ x next. first_both h o x is next) os following)) rising
    by_first false is more = AllPairs-cons IsBefore o (with_happened h os) (each_placed (IsBefore o) h os (other h o (All-head (IsApart h) o os apart) is) following) more

pub in_order_first : (hs : List Happened) → AllPairs IsApart hs → AllPairs IsBefore (in_order hs)
in_order_first [] apart = pairs_none IsBefore
in_order_first (h ∷ hs) apart = with_first h (in_order hs) (each_in_order (IsApart h) hs (pairs_first IsApart h hs apart)) (in_order_first hs (pairs_rest IsApart h hs apart))

-- it is the same, in another order
with_mixed : (h : Happened) (xs : List Happened) → IsPermutation (h ∷ xs) (with_happened h xs)
with_mixed h [] = IsPermutation-refl (h ∷ [])
with_mixed h (x ∷ xs) = by_first (is_first h x) (with_mixed h xs)
  where
    by_first : (b : Bool) → IsPermutation (h ∷ xs) (with_happened h xs) → IsPermutation (h ∷ x ∷ xs) (cond b (h ∷ x ∷ xs) (x ∷ with_happened h xs))
    by_first true more = IsPermutation-refl (h ∷ x ∷ xs)
    by_first false more =
        IsPermutation-trans (h ∷ x ∷ xs) (x ∷ h ∷ xs) (x ∷ with_happened h xs) (IsPermutation-middle (h ∷ []) x xs)
        (IsPermutation-cons x (h ∷ xs) (with_happened h xs) more)

order_mixed : (hs : List Happened) → IsPermutation hs (in_order hs)
order_mixed [] = IsPermutation-refl []
order_mixed (h ∷ hs) =
    IsPermutation-trans (h ∷ hs) (h ∷ in_order hs) (with_happened h (in_order hs)) (IsPermutation-cons h hs (in_order hs) (order_mixed hs)) (with_mixed h (in_order hs))

pub length-in_order : (hs : List Happened) → length (in_order hs) ≡ length hs
length-in_order hs = length_permutation hs (in_order hs) (order_mixed hs)

-- ---- in another order each two are still apart

-- where a place went when a and b changed places
moved_place : (f g : ℕ → Happened) (a b n : ℕ) → Swapped f g a b → a < n → b < n → (p : ℕ) → p < n
    → (s : ℕ) × (s < n) × (g p ≡ f s) × (p ≡ a → s ≡ b) × (p ≡ b → s ≡ a) × ((p ≡ a → ⊥) → (p ≡ b → ⊥) → s ≡ p)
moved_place f g a b n sw la lb p lp =
    elim (cases_eq p a) [
      | inl ea ↦ (b, lb, ap g ea ∙ sw.0, (λ e. refl), (λ eb. omega (arith, ea, eb)), (λ u v. absurd (u ea)))
      | inr na ↦ elim (cases_eq p b) [
        | inl eb ↦ (a, la, ap g eb ∙ sw.1, (λ e. absurd (na e)), (λ e. refl), (λ u v. absurd (v eb)))
        | inr nb ↦ (p, lp, sw.2 p na nb, (λ e. absurd (na e)), (λ e. absurd (nb e)), (λ u v. refl))
      ]
    ]

-- two places go to two places
images_differ : (a b i j s t : ℕ) → (i ≡ j → ⊥) → (i ≡ a → s ≡ b) → (i ≡ b → s ≡ a) → ((i ≡ a → ⊥) → (i ≡ b → ⊥) → s ≡ i) → (j ≡ a → t ≡ b) → (j ≡ b → t ≡ a) → ((j ≡ a → ⊥) → (j ≡ b → ⊥) → t ≡ j) → s ≡ t → ⊥
images_differ a b i j s t ne p q r x y z e = grind arith

either_way : (l : List Happened) → AllPairs IsApart l → (a b : ℕ) (d : Happened) → (a ≡ b → ⊥) → a < length l → b < length l → IsApart (get_or l a d) (get_or l b d)
either_way l all a b d ne la lb =
    elim (cases_order a b) [
      | inl e ↦ absurd (ne e)
      | inr o ↦ elim o [ inl x ↦ all a b d x lb | inr x ↦ swapped (get_or l b d) (get_or l a d) (all b a d x la) ]
    ]

pairs_swapped : (l : List Happened) (a b : ℕ) → a < length l → b < length l → AllPairs IsApart l → AllPairs IsApart (swap l a b)
pairs_swapped l a b la lb all i j d less within =
    let n = length l in
    let long : length (swap l a b) ≡ n = length-swap l a b in
    let sw = swapped_from_swap l (swap l a b) a b d la lb refl in
    let u = moved_place (λ k. get_or l k d) (λ k. get_or (swap l a b) k d) a b n sw la lb i (omega (arith, less, within, long)) in
    let v = moved_place (λ k. get_or l k d) (λ k. get_or (swap l a b) k d) a b n sw la lb j (omega (arith, within, long)) in
    let apart = either_way l all u.0 v.0 d (images_differ a b i j u.0 v.0 (λ e. omega (arith, less, e)) u.3 u.4 u.5 v.3 v.4 v.5) u.1 v.1 in
    rw (u.2, v.2) apart

pub pairs_mixed : (hs gs : List Happened) → IsPermutation hs gs → AllPairs IsApart hs → AllPairs IsApart gs
pairs_mixed hs gs mixed apart = IsPermutation-keeps hs (AllPairs IsApart) apart (λ l a b la lb all. pairs_swapped l a b la lb all) gs mixed

-- ---- ONE LIST ALONE of the same elements rises

cons_cases : (y : Happened) (ys : List Happened) (x : Happened) → Contains (y ∷ ys) x → (y ≡ x) ⊎ Contains ys x
cons_cases y ys x (zero, h, e) = inl e
cons_cases y ys x (suc k, h, e) = inr (k, omega (arith, h), e)

none_there : (x : Happened) → Contains [] x → ⊥
none_there x (k, h, e) = absurd (omega (arith, h))

heads : (x : Happened) (xs : List Happened) (y : Happened) (ys : List Happened) → All (IsBefore x) xs → All (IsBefore y) ys → Contains (y ∷ ys) x → Contains (x ∷ xs) y → y ≡ x
heads x xs y ys below under into back =
    elim (cons_cases y ys x into) [
      | inl e ↦ e
      | inr c ↦ elim (cons_cases x xs y back) [
        | inl e ↦ sym e
        | inr o ↦ absurd (both_ways (is_first x y) (reverse y x (All-contains (IsBefore y) ys x under c)) (All-contains (IsBefore x) xs y below o))
      ]
    ]

tails : (x : Happened) (xs : List Happened) (y : Happened) (ys : List Happened) → y ≡ x → All (IsBefore x) xs → All (Contains (y ∷ ys)) xs → All (Contains ys) xs
tails x xs y ys same below into k d h =
    let z = get_or xs k d in
    elim (cons_cases y ys z (into k d h)) [
      | inl e ↦
          let itself : is_first z z ≡ true = subst (λ w. is_first w z ≡ true) (sym same ∙ e) (below k d h) in
          absurd (both_ways (is_first z z) (reverse z z itself) itself)
      | inr c ↦ c
    ]

same_rising : (xs ys : List Happened) → AllPairs IsBefore xs → AllPairs IsBefore ys → All (Contains ys) xs → All (Contains xs) ys → xs ≡ ys
same_rising [] [] one two into back = refl
same_rising [] (y ∷ ys) one two into back = absurd (none_there y (All-head (Contains []) y ys back))
same_rising (x ∷ xs) [] one two into back = absurd (none_there x (All-head (Contains []) x xs into))
same_rising (x ∷ xs) (y ∷ ys) one two into back =
    let below = pairs_first IsBefore x xs one in
    let under = pairs_first IsBefore y ys two in
    let first : y ≡ x = heads x xs y ys below under (All-head (Contains (y ∷ ys)) x xs into) (All-head (Contains (x ∷ xs)) y ys back) in
    let rest : xs ≡ ys = same_rising xs ys (pairs_rest IsBefore x xs one) (pairs_rest IsBefore y ys two)
    (tails x xs y ys first below (All-tail (Contains (y ∷ ys)) x xs into)) (tails y ys x xs (sym first) under (All-tail (Contains (x ∷ xs)) y ys back)) in
    λ i. sym first i ∷ rest i

same_mixed : (xs ys : List Happened) → IsPermutation xs ys → AllPairs IsBefore xs → AllPairs IsBefore ys → xs ≡ ys
same_mixed xs ys mixed one two =
    same_rising xs ys one two
    (All-weaker (Contains xs) (Contains ys) (λ z c. Contains-permutation xs ys z mixed c) xs (All-contains_itself xs))
    (All-weaker (Contains ys) (Contains xs) (λ z c. Contains-permutation ys xs z (IsPermutation-sym xs ys mixed) c) ys (All-contains_itself ys))

-- ---- SORTED, it is in its order

rises : (hs : List Happened) → IsSortedBy is_first hs → AllPairs IsApart hs → AllPairs IsBefore hs
rises hs up apart i j d less within =
    let x = get_or hs i d in
    let y = get_or hs j d in
    other y x (swapped x y (apart i j d less within)) (sorted_far is_first first_order hs up i j d (omega (arith, less)) within)

pub sorted_is : (hs gs : List Happened) → IsPermutation hs gs → IsSortedBy is_first gs → AllPairs IsApart hs → gs ≡ in_order hs
sorted_is hs gs mixed up apart =
    same_mixed gs (in_order hs) (IsPermutation-trans gs hs (in_order hs) (IsPermutation-sym hs gs mixed) (order_mixed hs)) (rises gs up (pairs_mixed hs gs mixed apart)) (in_order_first hs apart)

-- so whatever order it had before does not matter
pub order_alike : (hs gs : List Happened) → IsPermutation hs gs → AllPairs IsApart hs → in_order gs ≡ in_order hs
order_alike hs gs mixed apart =
    same_mixed (in_order gs) (in_order hs)
    (IsPermutation-trans (in_order gs) hs (in_order hs)
    (IsPermutation-trans (in_order gs) gs hs (IsPermutation-sym gs (in_order gs) (order_mixed gs)) (IsPermutation-sym hs gs mixed)) (order_mixed hs))
    (in_order_first gs (pairs_mixed hs gs mixed apart)) (in_order_first hs apart)
