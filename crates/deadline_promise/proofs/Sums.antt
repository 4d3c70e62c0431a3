-- Sums over a list whose elements are changed.
use Rattle.std.proofs.Common.{◌≡◌, ℕ, zero, suc, ◌+◌, ◌*◌, ◌≤◌, Bool, true, false, cond, ◌||◌, List, [], ◌∷◌, map, refl, ap, sym, arith}
use Rattle.std.specs.Prelude.{All, sum_by, filter}
use Rattle.std.specs.List.{list_any}
use Rattle.std.proofs.lemmas.Bool.{false≢true}
use Rattle.std.proofs.lemmas.List.Elements.{All-head, All-tail}
use Rattle.std.proofs.lemmas.List.Sums.{sum_by-cons}
use Rattle.std.proofs.Math.Nat.{add-mul}

pub sum_less : {X : Type 0} (f h : X → ℕ) (g : X → X) (xs : List X) → All (λ t. f (g t) ≤ h t) xs → sum_by f (map g xs) ≤ sum_by h xs
sum_less f h g [] all = omega arith
sum_less f h g (x ∷ xs) all =
    omega (arith, sum_by-cons f (g x) (map g xs), sum_by-cons h x xs, All-head (λ t. f (g t) ≤ h t) x xs all, sum_less f h g xs (All-tail (λ t. f (g t) ≤ h t) x xs all))

pub sum_filter : {X : Type 0} (f : X → ℕ) (p : X → Bool) (xs : List X) → sum_by f (filter p xs) ≤ sum_by f xs
sum_filter f p [] = omega arith
sum_filter f p (x ∷ xs) =
    elim (p x) as (λ b. sum_by f (cond b (x ∷ filter p xs) (filter p xs)) ≤ sum_by f (x ∷ xs)) [
      | true ↦ omega (arith, sum_by-cons f x (filter p xs), sum_by-cons f x xs, sum_filter f p xs)
      | false ↦ omega (arith, sum_by-cons f x xs, sum_filter f p xs)
    ]

-- and one falls by so much
pub sum_falls : {X : Type 0} (u : ℕ) (f h : X → ℕ) (g : X → X) (b : X → Bool) (xs : List X) → All (λ t. f (g t) ≤ h t) xs → All (λ t. b t ≡ true → f (g t) + u ≤ h t) xs → list_any b xs ≡ true → sum_by f (map g xs) + u ≤ sum_by h xs
sum_falls u f h g b [] all one some = absurd (false≢true some)
sum_falls u f h g b (x ∷ xs) all one some =
    let rest = All-tail (λ t. f (g t) ≤ h t) x xs all in
    elim (b x) as (λ y. b x ≡ y → (y || list_any b xs) ≡ true → sum_by f (map g (x ∷ xs)) + u ≤ sum_by h (x ∷ xs)) [
      | true ↦ λ e s.
          omega (arith, sum_by-cons f (g x) (map g xs), sum_by-cons h x xs, All-head (λ t. b t ≡ true → f (g t) + u ≤ h t) x xs one e, sum_less f h g xs rest)
      | false ↦ λ e s.
          omega (
            arith,
            sum_by-cons f (g x) (map g xs),
            sum_by-cons h x xs,
            All-head (λ t. f (g t) ≤ h t) x xs all,
            sum_falls u f h g b xs rest (All-tail (λ t. b t ≡ true → f (g t) + u ≤ h t) x xs one) s,
          )
    ] refl some

pub sum_shares : {X : Type 0} (s : X → ℕ) (k : ℕ) (xs : List X) → sum_by (λ t. s t * k) xs ≡ sum_by s xs * k
sum_shares s k [] = omega arith
sum_shares s k (x ∷ xs) =
    omega (arith, sum_by-cons (λ t. s t * k) x xs, ap {B = ℕ} (λ n. n * k) (sum_by-cons s x xs), add-mul (s x) (sum_by s xs) k, sum_shares s k xs)

pub sum_has : {X : Type 0} (f : X → ℕ) (xs : List X) → All (λ t. f t ≤ sum_by f xs) xs
sum_has f [] k d h = absurd (omega (arith, h))
sum_has f (x ∷ xs) zero d h = omega (arith, sum_by-cons f x xs)
sum_has f (x ∷ xs) (suc k) d h = omega (arith, sum_by-cons f x xs, sum_has f xs k d (omega (arith, h)))

pub any_over : {X : Type 0} (s : X → X) (p : X → Bool) → ((x : X) → p (s x) ≡ p x) → (xs : List X) → list_any p (map s xs) ≡ list_any p xs
any_over s p same [] = refl
any_over s p same (x ∷ xs) = let a = same x in let b = any_over s p same xs in λ i. a i || b i

or_false : (a b : Bool) → (a || b) ≡ false → (a ≡ false) × (b ≡ false)
or_false true b e = absurd (false≢true (sym e))
or_false false b e = (refl, e)

pub none_any : {X : Type 0} (p : X → Bool) (xs : List X) → list_any p xs ≡ false → All (λ x. p x ≡ false) xs
none_any p [] e k d h = absurd (omega (arith, h))
none_any p (x ∷ xs) e zero d h = (or_false (p x) (list_any p xs) e).0
none_any p (x ∷ xs) e (suc k) d h = none_any p xs (or_false (p x) (list_any p xs) e).1 k d (omega (arith, h))
