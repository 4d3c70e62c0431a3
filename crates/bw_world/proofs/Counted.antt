-- Lists in which a test passes at one element at most.
use Rattle.std.proofs.Common.{◌≡◌, ℕ, ◌+◌, ◌≤◌, Bool, true, false, not, cond, List, [], ◌∷◌, map, Some, refl, arith}
use Rattle.std.specs.List.{sum_by, count_by, filter, find, list_any}
use Rattle.std.proofs.lemmas.List.Sums.{sum_by-cons}

-- a test as a number
abbrev pub one_if : Bool → ℕ
one_if b = cond b 1 0

pub count_by-cons : {X : Type 0} (p : X → Bool) (x : X) (xs : List X) → count_by p (x ∷ xs) ≡ one_if (p x) + count_by p xs
count_by-cons p x xs = sum_by-cons (λ y. one_if (p y)) x xs

-- what is found passes, and adds to every sum over the list
pub found_passes : {X : Type 0} (p : X → Bool) (xs : List X) (t : X) → find p xs ≡ Some t → p t ≡ true
found_passes p [] t found = cc
found_passes p (x ∷ xs) t found = grind (arith, found_passes p xs t)

pub found_adds : {X : Type 0} (f : X → ℕ) (p : X → Bool) (xs : List X) (t : X) → find p xs ≡ Some t → f t ≤ sum_by f xs
found_adds f p [] t found = cc
found_adds f p (x ∷ xs) t found = grind (arith, found_adds f p xs t, sum_by-cons f x xs)

pub found_any : {X : Type 0} (p : X → Bool) (xs : List X) (t : X) → find p xs ≡ Some t → list_any p xs ≡ true
found_any p [] t found = cc
found_any p (x ∷ xs) t found = grind (arith, found_any p xs t)

-- what passes nowhere
pub none_counted : {X : Type 0} (p : X → Bool) (xs : List X) → list_any p xs ≡ false → count_by p xs ≡ 0
none_counted p [] none = refl
none_counted p (x ∷ xs) none = grind (arith, none_counted p xs, count_by-cons p x xs)

pub all_kept : {X : Type 0} (p : X → Bool) (xs : List X) → count_by p xs ≡ 0 → filter (λ x. not (p x)) xs ≡ xs
all_kept p [] none = refl
all_kept p (x ∷ xs) none = grind (arith, all_kept p xs, count_by-cons p x xs)

-- a sum without the one element that passes
pub sum_by-without : {X : Type 0} (f : X → ℕ) (p : X → Bool) (xs : List X) (t : X) → count_by p xs ≤ 1 → find p xs ≡ Some t → sum_by f (filter (λ x. not (p x)) xs) + f t ≡ sum_by f xs
sum_by-without f p [] t one found = cc
sum_by-without f p (x ∷ xs) t one found = grind (arith, sum_by-without f p xs t, all_kept p xs, count_by-cons p x xs, sum_by-cons f x xs, sum_by-cons f x (filter (λ y. not (p y)) xs))

-- a sum where the one element that passes is changed
pub sum_by-changed : {X : Type 0} (f : X → ℕ) (p : X → Bool) (h : X → X) (xs : List X) (t : X) → count_by p xs ≤ 1 → find p xs ≡ Some t → sum_by f (map (λ x. cond (p x) (h x) x) xs) + f t ≡ sum_by f xs + f (h t)
sum_by-changed f p h [] t one found = cc
sum_by-changed f p h (x ∷ xs) t one found = grind (arith, sum_by-changed f p h xs t, none_changed f p h xs, count_by-cons p x xs, sum_by-cons f x xs, sum_by-cons f (cond (p x) (h x) x) (map (λ y. cond (p y) (h y) y) xs))
  where
    none_changed : {X : Type 0} (f : X → ℕ) (p : X → Bool) (h : X → X) (xs : List X) → count_by p xs ≡ 0 → sum_by f (map (λ x. cond (p x) (h x) x) xs) ≡ sum_by f xs
    none_changed f p h [] none = refl
    none_changed f p h (x ∷ xs) none = grind (arith, none_changed f p h xs, count_by-cons p x xs, sum_by-cons f x xs, sum_by-cons f (cond (p x) (h x) x) (map (λ y. cond (p y) (h y) y) xs))

-- a test that a change leaves alone passes as often
pub count_by-changed : {X : Type 0} (p : X → Bool) (h : X → X) → ((x : X) → p (h x) ≡ p x) → (xs : List X) → count_by p (map h xs) ≡ count_by p xs
count_by-changed p h same [] = refl
count_by-changed p h same (x ∷ xs) = grind (arith, count_by-changed p h same xs, same x, count_by-cons p x xs, count_by-cons p (h x) (map h xs))

-- two tests that pass at the same element, and at no other
pub one_kept : {X : Type 0} (p q : X → Bool) (xs : List X) (t : X) → count_by p xs ≤ 1 → count_by q xs ≤ 1 → find p xs ≡ Some t → q t ≡ true → filter (λ x. not (p x)) xs ≡ filter (λ x. not (q x)) xs
one_kept p q [] t one other found at = cc
one_kept p q (x ∷ xs) t one other found at = grind (arith, one_kept p q xs t, all_kept p xs, all_kept q xs, count_by-cons p x xs, count_by-cons q x xs, found_adds (λ y. one_if (q y)) p xs t)

pub one_changed : {X : Type 0} (p q : X → Bool) (h : X → X) (xs : List X) (t : X) → count_by p xs ≤ 1 → count_by q xs ≤ 1 → find p xs ≡ Some t → q t ≡ true → map (λ x. cond (p x) (h x) x) xs ≡ map (λ x. cond (q x) (h x) x) xs
one_changed p q h [] t one other found at = cc
one_changed p q h (x ∷ xs) t one other found at = grind (arith, one_changed p q h xs t, none_mapped p h xs, none_mapped q h xs, count_by-cons p x xs, count_by-cons q x xs, found_adds (λ y. one_if (q y)) p xs t)
  where
    none_mapped : {X : Type 0} (p : X → Bool) (h : X → X) (xs : List X) → count_by p xs ≡ 0 → map (λ x. cond (p x) (h x) x) xs ≡ xs
    none_mapped p h [] none = refl
    none_mapped p h (x ∷ xs) none = grind (arith, none_mapped p h xs, count_by-cons p x xs)
