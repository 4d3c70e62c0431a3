-- Lists of the same elements in another order.
use Rattle.std.proofs.Common.{◌≡◌, ◌≢◌, ℕ, suc, Bool, true, false, cond, ◌||◌, eqb, Option, Some, None, List, [], ◌∷◌, ◌++◌, length, map, refl, sym, ap, ◌∙◌, arith, ne_eqb, eqb-true}
use Rattle.std.specs.Prelude.{All, AllPairs, filter, filter_map, find, sum_by}
use Rattle.std.specs.List.{list_any, cons_option}
use Rattle.std.proofs.lemmas.List.Elements.{All-cons, All-head, All-tail}
use Rattle.std.proofs.lemmas.List.Sums.{sum_by-cons}
use Rattle.std.proofs.lemmas.List.Kept.{AllPairs-cons}

pub data Reordered {X : Type 0} : List X → List X → Type 0 where
  ends : Reordered [] []
  next : (x : X) (xs ys : List X) → Reordered xs ys → Reordered (x ∷ xs) (x ∷ ys)
  swaps : (x y : X) (xs : List X) → Reordered (x ∷ y ∷ xs) (y ∷ x ∷ xs)
  chain : (xs ys zs : List X) → Reordered xs ys → Reordered ys zs → Reordered xs zs

pub same_order : {X : Type 0} (xs : List X) → Reordered xs xs
same_order [] = ends
same_order (x ∷ xs) = next x xs xs (same_order xs)

pub turned : {X : Type 0} (xs ys : List X) → Reordered xs ys → Reordered ys xs
turned xs ys ends = ends
turned xs ys (next x us vs r) = next x vs us (turned us vs r)
turned xs ys (swaps x y us) = swaps y x us
turned xs ys (chain us vs ws r s) = chain ws vs us (turned vs ws s) (turned us vs r)

pub mapped : {X Y : Type 0} (f : X → Y) (xs ys : List X) → Reordered xs ys → Reordered (map f xs) (map f ys)
mapped f xs ys ends = ends
mapped f xs ys (next x us vs r) = next (f x) (map f us) (map f vs) (mapped f us vs r)
mapped f xs ys (swaps x y us) = swaps (f x) (f y) (map f us)
mapped f xs ys (chain us vs ws r s) = chain (map f us) (map f vs) (map f ws) (mapped f us vs r) (mapped f vs ws s)

swap_tested : {X : Type 0} (a b : Bool) (x y : X) (us : List X)
    → Reordered (cond a (x ∷ cond b (y ∷ us) us) (cond b (y ∷ us) us)) (cond b (y ∷ cond a (x ∷ us) us) (cond a (x ∷ us) us))
swap_tested true true x y us = swaps x y us
swap_tested true false x y us = same_order (x ∷ us)
swap_tested false true x y us = same_order (y ∷ us)
swap_tested false false x y us = same_order us

pub filtered : {X : Type 0} (p : X → Bool) (xs ys : List X) → Reordered xs ys → Reordered (filter p xs) (filter p ys)
filtered p xs ys ends = ends
filtered p xs ys (next x us vs r) =
    elim (p x) as (λ b. Reordered (cond b (x ∷ filter p us) (filter p us)) (cond b (x ∷ filter p vs) (filter p vs))) [
      | true ↦ next x (filter p us) (filter p vs) (filtered p us vs r)
      | false ↦ filtered p us vs r
    ]
filtered p xs ys (swaps x y us) = swap_tested (p x) (p y) x y (filter p us)
filtered p xs ys (chain us vs ws r s) = chain (filter p us) (filter p vs) (filter p ws) (filtered p us vs r) (filtered p vs ws s)

more_option : {X : Type 0} (a : Option X) (us vs : List X) → Reordered us vs → Reordered (cons_option a us) (cons_option a vs)
more_option None us vs r = r
more_option (Some x) us vs r = next x us vs r

swap_options : {X : Type 0} (a b : Option X) (us : List X) → Reordered (cons_option a (cons_option b us)) (cons_option b (cons_option a us))
swap_options None b us = same_order (cons_option b us)
swap_options (Some x) None us = same_order (x ∷ us)
swap_options (Some x) (Some y) us = swaps x y us

pub filter_mapped : {X Y : Type 0} (h : X → Option Y) (xs ys : List X) → Reordered xs ys → Reordered (filter_map h xs) (filter_map h ys)
filter_mapped h xs ys ends = ends
filter_mapped h xs ys (next x us vs r) = more_option (h x) (filter_map h us) (filter_map h vs) (filter_mapped h us vs r)
filter_mapped h xs ys (swaps x y us) = swap_options (h x) (h y) (filter_map h us)
filter_mapped h xs ys (chain us vs ws r s) = chain (filter_map h us) (filter_map h vs) (filter_map h ws) (filter_mapped h us vs r) (filter_mapped h vs ws s)

pub same_sum : {X : Type 0} (f : X → ℕ) (xs ys : List X) → Reordered xs ys → sum_by f xs ≡ sum_by f ys
same_sum f xs ys ends = refl
same_sum f xs ys (next x us vs r) = omega (arith, sum_by-cons f x us, sum_by-cons f x vs, same_sum f us vs r)
same_sum f xs ys (swaps x y us) = omega (arith, sum_by-cons f x (y ∷ us), sum_by-cons f y us, sum_by-cons f y (x ∷ us), sum_by-cons f x us)
same_sum f xs ys (chain us vs ws r s) = same_sum f us vs r ∙ same_sum f vs ws s

pub same_length : {X : Type 0} (xs ys : List X) → Reordered xs ys → length xs ≡ length ys
same_length xs ys ends = refl
same_length xs ys (next x us vs r) = ap suc (same_length us vs r)
same_length xs ys (swaps x y us) = refl
same_length xs ys (chain us vs ws r s) = same_length us vs r ∙ same_length vs ws s

or_swap : (a b c : Bool) → (a || (b || c)) ≡ (b || (a || c))
or_swap true true c = refl
or_swap true false c = refl
or_swap false b c = refl

pub same_any : {X : Type 0} (p : X → Bool) (xs ys : List X) → Reordered xs ys → list_any p xs ≡ list_any p ys
same_any p xs ys ends = refl
same_any p xs ys (next x us vs r) = ap (λ b. p x || b) (same_any p us vs r)
same_any p xs ys (swaps x y us) = or_swap (p x) (p y) (list_any p us)
same_any p xs ys (chain us vs ws r s) = same_any p us vs r ∙ same_any p vs ws s

pub all_reordered : {X : Type 0} (P : X → Type 0) (xs ys : List X) → Reordered xs ys → All P xs → All P ys
all_reordered P xs ys ends all = all
all_reordered P xs ys (next x us vs r) all = All-cons P x vs (All-head P x us all) (all_reordered P us vs r (All-tail P x us all))
all_reordered P xs ys (swaps x y us) all =
    let rest = All-tail P x (y ∷ us) all in
    All-cons P y (x ∷ us) (All-head P y us rest) (All-cons P x us (All-head P x (y ∷ us) all) (All-tail P y us rest))
all_reordered P xs ys (chain us vs ws r s) all = all_reordered P vs ws s (all_reordered P us vs r all)

-- ---- numbers apart

abbrev pub AreApart : {X : Type 0} → (X → ℕ) → List X → Type 0
AreApart number xs = AllPairs (λ a b. number a ≢ number b) xs

pub apart_first : {X : Type 0} (number : X → ℕ) (x : X) (xs : List X) → AreApart number (x ∷ xs) → All (λ b. number x ≢ number b) xs
apart_first number x xs apart k d h = apart 0 (suc k) d (omega arith) (omega arith)

pub apart_rest : {X : Type 0} (number : X → ℕ) (x : X) (xs : List X) → AreApart number (x ∷ xs) → AreApart number xs
apart_rest number x xs apart i j d h k = apart (suc i) (suc j) d (omega arith) (omega arith)

pub apart_reordered : {X : Type 0} (number : X → ℕ) (xs ys : List X) → Reordered xs ys → AreApart number xs → AreApart number ys
apart_reordered number xs ys ends apart = apart
apart_reordered number xs ys (next x us vs r) apart =
    AllPairs-cons (λ a b. number a ≢ number b) x vs (all_reordered (λ b. number x ≢ number b) us vs r (apart_first number x us apart)) (apart_reordered number us vs r (apart_rest number x us apart))
apart_reordered number xs ys (swaps x y us) apart =
    let first = apart_first number x (y ∷ us) apart in
    let rest = apart_rest number x (y ∷ us) apart in
    let other = All-head (λ b. number x ≢ number b) y us first in
    AllPairs-cons (λ a b. number a ≢ number b) y (x ∷ us)
    (All-cons (λ b. number y ≢ number b) x us (λ e. other (sym e)) (apart_first number y us rest))
    (AllPairs-cons (λ a b. number a ≢ number b) x us (All-tail (λ b. number x ≢ number b) y us first) (apart_rest number y us rest))
apart_reordered number xs ys (chain us vs ws r s) apart = apart_reordered number vs ws s (apart_reordered number us vs r apart)

found_swap : {X : Type 0} (a b : Bool) (x y o : Option X) → (b ≡ true → a ≡ false) → cond a x (cond b y o) ≡ cond b y (cond a x o)
found_swap a true x y o h = ap (λ t. cond t x y) (h refl)
found_swap a false x y o h = refl

pub same_found : {X : Type 0} (number : X → ℕ) (n : ℕ) (xs ys : List X) → Reordered xs ys → AreApart number xs → find (λ x. eqb (number x) n) xs ≡ find (λ x. eqb (number x) n) ys
same_found number n xs ys ends apart = refl
same_found number n xs ys (next x us vs r) apart = ap (λ o. cond (eqb (number x) n) (Some x) o) (same_found number n us vs r (apart_rest number x us apart))
same_found number n xs ys (swaps x y us) apart =
    let other = All-head (λ b. number x ≢ number b) y us (apart_first number x (y ∷ us) apart) in
    found_swap (eqb (number x) n) (eqb (number y) n) (Some x) (Some y) (find (λ z. eqb (number z) n) us)
    (λ t. ne_eqb (number x) n (λ e. other (e ∙ sym (eqb-true (number y) n t))))
same_found number n xs ys (chain us vs ws r s) apart = same_found number n us vs r apart ∙ same_found number n vs ws s (apart_reordered number us vs r apart)

-- ---- lists after lists

pub after_same : {X : Type 0} (zs xs ys : List X) → Reordered xs ys → Reordered (zs ++ xs) (zs ++ ys)
after_same [] xs ys r = r
after_same (z ∷ zs) xs ys r = next z (zs ++ xs) (zs ++ ys) (after_same zs xs ys r)

pub before_same : {X : Type 0} (xs ys zs : List X) → Reordered xs ys → Reordered (xs ++ zs) (ys ++ zs)
before_same xs ys zs ends = same_order zs
before_same xs ys zs (next x us vs r) = next x (us ++ zs) (vs ++ zs) (before_same us vs zs r)
before_same xs ys zs (swaps x y us) = swaps x y (us ++ zs)
before_same xs ys zs (chain us vs ws r s) = chain (us ++ zs) (vs ++ zs) (ws ++ zs) (before_same us vs zs r) (before_same vs ws zs s)

pub middle_first : {X : Type 0} (xs : List X) (x : X) (ys : List X) → Reordered (xs ++ x ∷ ys) (x ∷ xs ++ ys)
middle_first [] x ys = same_order (x ∷ ys)
middle_first (z ∷ xs) x ys = chain (z ∷ xs ++ x ∷ ys) (z ∷ x ∷ xs ++ ys) (x ∷ z ∷ xs ++ ys) (next z (xs ++ x ∷ ys) (x ∷ xs ++ ys) (middle_first xs x ys)) (swaps z x (xs ++ ys))
