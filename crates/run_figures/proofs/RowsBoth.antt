-- The rows of two tables, place by place.
use Rattle.std.proofs.Common.{◌≡◌, ℕ, zero, suc, ◌+◌, ◌≤◌, ◌<◌, List, [], ◌∷◌, length, get_or, set, map, refl, sym, ap, ◌∙◌, arith, subst, All}
use Rattle.std.proofs.lemmas.List.Elements.{All-head, All-tail}
use Rattle.run_figures.specs.private.Growing.{rows_grown}

-- the first rows are done
abbrev pub first_both : {X : Type 0} → (X → X → X) → ℕ → List X → List X → List X
first_both f zero xs ys = ys
first_both f (suc i) (a ∷ xs) (b ∷ ys) = f a b ∷ first_both f i xs ys
first_both f (suc i) _ ys = ys

pub length_first : {X : Type 0} (f : X → X → X) (i : ℕ) (xs ys : List X) → length (first_both f i xs ys) ≡ length ys
length_first f zero xs ys = refl
length_first f (suc i) [] ys = refl
length_first f (suc i) (a ∷ xs) [] = refl
length_first f (suc i) (a ∷ xs) (b ∷ ys) = ap suc (length_first f i xs ys)

pub at_first : {X : Type 0} (f : X → X → X) (i : ℕ) (d : X) (xs ys : List X) → get_or (first_both f i xs ys) i d ≡ get_or ys i d
at_first f zero d xs ys = refl
at_first f (suc i) d [] ys = refl
at_first f (suc i) d (a ∷ xs) [] = refl
at_first f (suc i) d (a ∷ xs) (b ∷ ys) = at_first f i d xs ys

pub set_first : {X : Type 0} (f : X → X → X) (i : ℕ) (d e : X) (xs ys : List X) → i < length xs → i < length ys
    → set (first_both f i xs ys) i (f (get_or xs i d) (get_or ys i e)) ≡ first_both f (suc i) xs ys
set_first f i d e [] ys l m = absurd (omega (arith, l))
set_first f i d e (a ∷ xs) [] l m = absurd (omega (arith, m))
set_first f zero d e (a ∷ xs) (b ∷ ys) l m = refl
set_first {X} f (suc i) d e (a ∷ xs) (b ∷ ys) l m = ap (λ (zs : List X). f a b ∷ zs) (set_first f i d e xs ys (omega (arith, l)) (omega (arith, m)))

pub all_first : {X : Type 0} (f : X → X → X) (i : ℕ) (xs ys : List X) → length xs ≡ length ys → length xs ≤ i → first_both f i xs ys ≡ rows_grown f xs ys
all_first f zero [] [] same l = refl
all_first f (suc i) [] [] same l = refl
all_first f i [] (b ∷ ys) same l = absurd (omega (arith, same))
all_first f i (a ∷ xs) [] same l = absurd (omega (arith, same))
all_first f zero (a ∷ xs) (b ∷ ys) same l = absurd (omega (arith, l))
all_first {X} f (suc i) (a ∷ xs) (b ∷ ys) same l = ap (λ (zs : List X). f a b ∷ zs) (all_first f i xs ys (omega (arith, same)) (omega (arith, l)))

pub at_both : {X : Type 0} (f : X → X → X) (i : ℕ) (c d e : X) (xs ys : List X) → length xs ≡ length ys → i < length ys → get_or (rows_grown f xs ys) i c ≡ f (get_or xs i d) (get_or ys i e)
at_both f i c d e [] [] same l = absurd (omega (arith, l))
at_both f i c d e [] (b ∷ ys) same l = absurd (omega (arith, same))
at_both f i c d e (a ∷ xs) [] same l = absurd (omega (arith, l))
at_both f zero c d e (a ∷ xs) (b ∷ ys) same l = refl
at_both f (suc i) c d e (a ∷ xs) (b ∷ ys) same l = at_both f i c d e xs ys (omega (arith, same)) (omega (arith, l))

pub length_both : {X : Type 0} (f : X → X → X) (xs ys : List X) → length xs ≡ length ys → length (rows_grown f xs ys) ≡ length ys
length_both f [] [] same = refl
length_both f [] (b ∷ ys) same = absurd (omega (arith, same))
length_both f (a ∷ xs) [] same = refl
length_both f (a ∷ xs) (b ∷ ys) same = ap suc (length_both f xs ys (omega (arith, same)))

-- the rows of two tables of the same keys
pub both_of : {X : Type 0} (f : X → X → X) (g h then : ℕ → X) (ks : List ℕ) → All (λ k. f (g k) (h k) ≡ then k) ks → rows_grown f (map g ks) (map h ks) ≡ map then ks
both_of f g h then [] each = refl
both_of {X} f g h then (k ∷ ks) each =
    let rest : All (λ k. f (g k) (h k) ≡ then k) ks = All-tail (λ (k : ℕ). f (g k) (h k) ≡ then k) k ks each in
    let here = All-head (λ (k : ℕ). f (g k) (h k) ≡ then k) k ks each in
    λ i. here i ∷ both_of f g h then ks rest i

-- AT A PLACE, while the rows are done one after another
pub item_there : {X : Type 0} (f : X → X → X) (i : ℕ) (item : X) (xs ys table : List X) → table ≡ first_both f i xs ys → item ≡ get_or table i item → item ≡ get_or ys i item
item_there {X} f i item xs ys table is at = at ∙ ap (λ (zs : List X). get_or zs i item) is ∙ at_first f i item xs ys

pub each_there : {X : Type 0} (P : X → Type 0) (f : X → X → X) (i : ℕ) (d item : X) (xs ys table : List X) → table ≡ first_both f i xs ys → item ≡ get_or table i item → length xs ≡ length ys → i < length xs
    → All P (rows_grown f xs ys) → P (f (get_or xs i d) item)
each_there P f i d item xs ys table is at same l all =
    let inside : i < length ys = omega (arith, l, same) in
    subst P (at_both f i d d item xs ys same inside ∙ ap (f (get_or xs i d)) (sym (item_there f i item xs ys table is at))) (all i d (omega (arith, inside, length_both f xs ys same)))

pub one_more_there : {X : Type 0} (f : X → X → X) (i : ℕ) (d item new : X) (xs ys table : List X) → table ≡ first_both f i xs ys → item ≡ get_or table i item → length xs ≡ length ys → i < length xs
    → new ≡ f (get_or xs i d) item → set table i new ≡ first_both f (i + 1) xs ys
one_more_there {X} f i d item new xs ys table is at same l made =
    let next : suc i ≡ i + 1 = omega arith in
    (λ j. set (is j) i ((made ∙ ap (f (get_or xs i d)) (item_there f i item xs ys table is at)) j))
    ∙ set_first f i d item xs ys l (omega (arith, l, same)) ∙ ap (λ n. first_both f n xs ys) next

pub all_there : {X : Type 0} (f : X → X → X) (i : ℕ) (xs ys table : List X) → table ≡ first_both f i xs ys → length xs ≡ length ys → length xs ≤ i → table ≡ rows_grown f xs ys
all_there f i xs ys table is same l = is ∙ all_first f i xs ys same l
