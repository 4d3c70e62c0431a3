-- Maps over lists, and tests that a change of the elements leaves alone.
use Rattle.std.proofs.Common.{◌≡◌, ℕ, ◌+◌, ◌≤◌, Bool, true, false, cond, ◌||◌, leb, ltb, eqb, Some, List, [], ◌∷◌, ◌++◌, length, map, refl, sym, ap, subst, ◌∙◌, arith}
use Rattle.std.specs.Prelude.{All, filter, find, count_by, option_map}
use Rattle.std.specs.List.{list_any, flat_map}
use Rattle.std.proofs.lemmas.List.{map-append, get_or-map, length-map}
use Rattle.std.proofs.lemmas.List.Elements.{All-head, All-tail}
use Rattle.std.proofs.lemmas.List.Sums.{sum_by-cons}
use Rattle.domain_run.proofs.CallerLemmas.{length-filter_least}

module _ {X Y : Type 0} (f g : X → Y) (same : (x : X) → f x ≡ g x) where
  pub map_same : (xs : List X) → map f xs ≡ map g xs
  map_same [] = refl
  map_same (x ∷ xs) = let a = same x in let b = map_same xs in λ i. a i ∷ b i

-- two maps in the other order
pub map_over : {X : Type 0} (s f g : X → X) (xs : List X) → All (λ x. g (s x) ≡ s (f x)) xs → map g (map s xs) ≡ map s (map f xs)
map_over s f g [] same = refl
map_over s f g (x ∷ xs) same =
    let a = All-head (λ y. g (s y) ≡ s (f y)) x xs same in
    let b = map_over s f g xs (All-tail (λ y. g (s y) ≡ s (f y)) x xs same) in
    λ i. a i ∷ b i

pub filter_over : {X : Type 0} (s : X → X) (p : X → Bool) → ((x : X) → p (s x) ≡ p x) → (xs : List X) → filter p (map s xs) ≡ map s (filter p xs)
filter_over s p same [] = refl
filter_over s p same (x ∷ xs) =
    let a = same x in let b = filter_over s p same xs in
    (λ i. cond (a i) (s x ∷ b i) (b i)) ∙ push (p x)
  where
    push : (y : Bool) → cond y (s x ∷ map s (filter p xs)) (map s (filter p xs)) ≡ map s (cond y (x ∷ filter p xs) (filter p xs))
    push true = refl
    push false = refl

pub find_over : {X : Type 0} (s : X → X) (p q : X → Bool) → ((x : X) → q (s x) ≡ p x) → (xs : List X) → find q (map s xs) ≡ option_map s (find p xs)
find_over s p q same [] = refl
find_over s p q same (x ∷ xs) =
    let a = same x in let b = find_over s p q same xs in
    (λ i. cond (a i) (Some (s x)) (b i)) ∙ push (p x)
  where
    push : (y : Bool) → cond y (Some (s x)) (option_map s (find p xs)) ≡ option_map s (cond y (Some x) (find p xs))
    push true = refl
    push false = refl

pub any_over : {X : Type 0} (s : X → X) (p q : X → Bool) → ((x : X) → q (s x) ≡ p x) → (xs : List X) → list_any q (map s xs) ≡ list_any p xs
any_over s p q same [] = refl
any_over s p q same (x ∷ xs) = let a = same x in let b = any_over s p q same xs in λ i. a i || b i

pub count_over : {X : Type 0} (s : X → X) (p q : X → Bool) → ((x : X) → q (s x) ≡ p x) → (xs : List X) → count_by q (map s xs) ≡ count_by p xs
count_over s p q same [] = refl
count_over s p q same (x ∷ xs) =
    let a = same x in let b = count_over s p q same xs in
    sum_by-cons (λ y. cond (q y) 1 0) (s x) (map s xs) ∙ (λ i. cond (a i) 1 0 + b i) ∙ sym (sum_by-cons (λ y. cond (p y) 1 0) x xs)

pub flat_over : {X Y : Type 0} (s : X → X) (m : Y → Y) (f g : X → List Y) (xs : List X) → All (λ x. g (s x) ≡ map m (f x)) xs → flat_map g (map s xs) ≡ map m (flat_map f xs)
flat_over s m f g [] same = refl
flat_over s m f g (x ∷ xs) same =
    let a = All-head (λ y. g (s y) ≡ map m (f y)) x xs same in
    let b = flat_over s m f g xs (All-tail (λ y. g (s y) ≡ map m (f y)) x xs same) in
    (λ i. a i ++ b i) ∙ sym (map-append m (f x) (flat_map f xs))

-- what holds of each element of a map
pub All-unmap : {X Y : Type 0} (P : Y → Type 0) (f : X → Y) (xs : List X) → All P (map f xs) → All (λ x. P (f x)) xs
All-unmap P f xs h i x within =
    let e : length (map f xs) ≡ length xs = simp length-map in
    subst P (get_or-map f xs i x (f x) within) (h i (f x) (omega (arith, e, within)))

-- a filter that leaves the length takes nothing away
pub filter_all : {X : Type 0} (p : X → Bool) (xs : List X) → length xs ≤ length (filter p xs) → filter p xs ≡ xs
filter_all p [] long = refl
filter_all {X = X} p (x ∷ xs) long =
    elim (p x) as (λ b. length (x ∷ xs) ≤ length (cond b (x ∷ filter p xs) (filter p xs)) → cond b (x ∷ filter p xs) (filter p xs) ≡ x ∷ xs) [
      | true ↦ λ h. ap (λ ys. x ∷ ys) (filter_all p xs (omega (arith, h)))
      | false ↦ λ h. absurd (omega (arith, h, length-filter_least p xs))
    ] long

-- a function over a choice
pub choice_over : {X Y : Type 0} (f : X → Y) (b : Bool) (x y : X) → cond b (f x) (f y) ≡ f (cond b x y)
choice_over f true x y = refl
choice_over f false x y = refl

pub choice_over2 : {X Y : Type 0} (f : X → Y) (a b : Bool) (x y z : X) → cond a (cond b (f x) (f y)) (f z) ≡ f (cond a (cond b x y) z)
choice_over2 f true true x y z = refl
choice_over2 f true false x y z = refl
choice_over2 f false b x y z = refl

pub le_later : (a b k : ℕ) → leb (a + k) (b + k) ≡ leb a b
le_later a b k = grind arith

pub lt_later : (a b k : ℕ) → ltb (a + k) (b + k) ≡ ltb a b
lt_later a b k = grind arith

pub eq_later : (a b k : ℕ) → eqb (a + k) (b + k) ≡ eqb a b
eq_later a b k = grind arith
