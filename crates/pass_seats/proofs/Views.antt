-- Sums over views and facts on all of them, when one of them changes.
use Rattle.std.proofs.Common.{◌≡◌, ◌≢◌, ◌≤◌, ◌<◌, All, ℕ, zero, suc, ◌+◌, List, [], ◌∷◌, ◌++◌, length, set, get_or, sym, refl, ap, subst, Some, arith}
use Rattle.std.specs.List.{sum_by, slice_get}
use Rattle.std.proofs.lemmas.List.Sums.{sum_by-cons}
use Rattle.std.proofs.lemmas.List.Elements.{All-nil, All-cons}
use mathlib.Core.Option.{some, some-injective, some-ne-none}
use lib.ListN.{get_elem?}

module _ {X : Type 0} where
  pub sum_set : (f : X → ℕ) (xs : List X) (i : ℕ) (x y : X) → get_elem? xs i ≡ some x → sum_by f (set xs i y) + f x ≡ sum_by f xs + f y
  sum_set f [] i x y e = absurd (some-ne-none x (sym e))
  sum_set f (z ∷ xs) zero x y e =
      let same : f z ≡ f x = ap f (some-injective z x e) in
      let a = sum_by-cons f z xs in
      let b = sum_by-cons f y xs in
      omega (arith, a, b, same)
  sum_set f (z ∷ xs) (suc i) x y e =
      let h = sum_set f xs i x y e in
      let a = sum_by-cons f z xs in
      let b = sum_by-cons f z (set xs i y) in
      omega (arith, a, b, h)

  pub sum_at : (f : X → ℕ) (xs : List X) (i : ℕ) (x : X) → get_elem? xs i ≡ some x → f x ≤ sum_by f xs
  sum_at f [] i x e = absurd (some-ne-none x (sym e))
  sum_at f (z ∷ xs) zero x e =
      let same : f z ≡ f x = ap f (some-injective z x e) in
      let a = sum_by-cons f z xs in
      omega (arith, a, same)
  sum_at f (z ∷ xs) (suc i) x e =
      let h = sum_at f xs i x e in
      let a = sum_by-cons f z xs in
      omega (arith, a, h)

  pub sum_two : (f : X → ℕ) (xs : List X) (i j : ℕ) (x y : X) → j ≢ i → get_elem? xs i ≡ some x → get_elem? xs j ≡ some y → f x + f y ≤ sum_by f xs
  sum_two f [] i j x y ne a b = absurd (some-ne-none x (sym a))
  sum_two f (z ∷ xs) zero zero x y ne a b = absurd (ne refl)
  sum_two f (z ∷ xs) zero (suc j) x y ne a b =
      let same : f z ≡ f x = ap f (some-injective z x a) in
      let s = sum_by-cons f z xs in
      let h = sum_at f xs j y b in
      omega (arith, same, s, h)
  sum_two f (z ∷ xs) (suc i) zero x y ne a b =
      let same : f z ≡ f y = ap f (some-injective z y b) in
      let s = sum_by-cons f z xs in
      let h = sum_at f xs i x a in
      omega (arith, same, s, h)
  sum_two f (z ∷ xs) (suc i) (suc j) x y ne a b =
      let s = sum_by-cons f z xs in
      let h = sum_two f xs i j x y (λ e. ne (ap suc e)) a b in
      omega (arith, s, h)

  pub at_is : (xs : List X) (i : ℕ) (x : X) → get_elem? xs i ≡ some x → (i < length xs) × (get_or xs i x ≡ x)
  at_is [] i x e = absurd (some-ne-none x (sym e))
  at_is (z ∷ xs) zero x e = (omega arith, some-injective z x e)
  at_is (z ∷ xs) (suc i) x e = let h = at_is xs i x e in let a = h.0 in (omega arith, h.1)

  pub all_at : (P : X → Type 0) (xs : List X) (i : ℕ) (x : X) → get_elem? xs i ≡ some x → All P xs → P x
  all_at P xs i x e all = let h = at_is xs i x e in subst P h.1 (all i x h.0)

  pub all_from_at : (P : X → Type 0) (xs : List X) → ((i : ℕ) (x : X) → get_elem? xs i ≡ some x → P x) → All P xs
  all_from_at P [] h = All-nil P
  all_from_at P (z ∷ xs) h = All-cons P z xs (h 0 z refl) (all_from_at P xs (λ i x e. h (suc i) x e))

  pub all_set : (P : X → Type 0) (xs : List X) (i : ℕ) (y : X) → P y → ((j : ℕ) (x : X) → j ≢ i → get_elem? xs j ≡ some x → P x) → All P (set xs i y)
  all_set P [] i y py h = All-nil P
  all_set P (z ∷ xs) zero y py h = All-cons P y xs py (all_from_at P xs (λ j x e. h (suc j) x (λ q. absurd (omega (arith, q))) e))
  all_set P (z ∷ xs) (suc i) y py h = All-cons P z (set xs i y) (h 0 z (λ q. absurd (omega (arith, q))) refl) (all_set P xs i y py (λ j x ne e. h (suc j) x (λ q. ne (omega (arith, q))) e))

  -- one more at the end
  pub get_front : (xs : List X) (x y : X) (k : ℕ) → slice_get xs k ≡ Some y → slice_get (xs ++ x ∷ []) k ≡ Some y
  get_front [] x y k e = absurd (cc)
  get_front (z ∷ xs) x y zero e = e
  get_front (z ∷ xs) x y (suc k) e = get_front xs x y k e

  pub get_last : (xs : List X) (x : X) (n : ℕ) → length xs ≡ n → slice_get (xs ++ x ∷ []) n ≡ Some x
  get_last [] x zero e = refl
  get_last [] x (suc n) e = absurd (omega (arith, e))
  get_last (z ∷ xs) x zero e = absurd (omega (arith, e))
  get_last (z ∷ xs) x (suc n) e = get_last xs x n (omega (arith, e))
