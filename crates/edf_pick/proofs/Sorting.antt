-- A list in order: one for the same tasks, and what stays in order when tasks go, change or come
-- after.
use Rattle.std.proofs.Common.{◌≡◌, ◌≢◌, ◌<◌, ◌≤◌, ℕ, zero, suc, Bool, true, false, cond, eqb, ltb, ◌&&◌, ◌||◌, List, [], ◌∷◌, ◌++◌, length, get_or, map, refl, sym, subst, ap, ◌∙◌, arith, inl, inr, ◌⊎◌, eq-eqb}
use Rattle.std.specs.Prelude.{All, Contains, filter, not, sum_by}
use Rattle.std.specs.List.Sorted.{IsPermutation}
use Rattle.std.proofs.lemmas.Bool.{cases_Bool, cases_eq, ne_eqb, cond-true, cond-false}
use Rattle.std.proofs.lemmas.List.Elements.{All-nil, All-cons, All-head, All-tail, All-append, All-contains}
use Rattle.std.proofs.lemmas.List.Kept.{AllPairs-cons, AllPairs-filter}
use Rattle.std.proofs.lemmas.List.Sums.{sum_by-cons}
use Rattle.std.proofs.lemmas.List.Sorted.{IsPermutation-sym, IsPermutation-append_left, Contains-permutation, All-permutation, sum_by-IsPermutation}
use Rattle.edf_pick.specs.declared.candidate.Candidate.{Candidate}
use Rattle.edf_pick.specs.Choice.{is_before}
use Rattle.edf_pick.specs.Order.{IsRising, is_same, with_candidate, without_candidate, by_deadline}
use Rattle.edf_pick.proofs.Before.{before_reverse, before_itself}
use Rattle.edf_pick.proofs.CallerLemmas.{IsNumbered, numbered_first, numbered_rest, permuted, contains_ordered, contains_from_ordered, rising_ordered, with_later, with_here}
use Rattle.edf_pick.proofs.Rising.{rising_first, rising_rest}

-- ---- ONE NUMBER FOR EACH

abbrev at_number : ℕ → Candidate → ℕ
at_number n c = cond (eqb c.number n) 1 0

none_of : (n : ℕ) (xs : List Candidate) → All (λ b. n ≢ b.number) xs → sum_by (at_number n) xs ≡ 0
none_of n [] none = refl
none_of n (x ∷ xs) none =
    let here : at_number n x ≡ 0 = ap (λ (b : Bool). cond b 1 0) (ne_eqb x.number n (λ e. All-head (λ b. n ≢ b.number) x xs none (sym e))) in
    let rest = none_of n xs (All-tail (λ b. n ≢ b.number) x xs none) in
    let sum = sum_by-cons (at_number n) x xs in
    omega (arith, here, rest, sum)

one_of : (n : ℕ) (xs : List Candidate) → IsNumbered xs → sum_by (at_number n) xs ≤ 1
one_of n [] numbered = omega arith
one_of n (x ∷ xs) numbered =
    let sum = sum_by-cons (at_number n) x xs in
    elim (cases_eq x.number n) [
      | inl same ↦
          let here : at_number n x ≡ 1 = ap (λ (b : Bool). cond b 1 0) (eq-eqb x.number n same) in
          let rest = none_of n xs (subst (λ k. All (λ b. k ≢ b.number) xs) same (numbered_first x xs numbered)) in
          omega (arith, here, rest, sum)
      | inr other ↦
          let here : at_number n x ≡ 0 = ap (λ (b : Bool). cond b 1 0) (ne_eqb x.number n other) in
          let rest = one_of n xs (numbered_rest x xs numbered) in
          omega (arith, here, rest, sum)
    ]

some_of : (n : ℕ) (xs : List Candidate) (k : ℕ) (d : Candidate) → k < length xs → n ≡ (get_or xs k d).number → 1 ≤ sum_by (at_number n) xs
some_of n [] k d h e = absurd (omega arith)
some_of n (x ∷ xs) zero d h e =
    let sum = sum_by-cons (at_number n) x xs in
    let here : at_number n x ≡ 1 = ap (λ (b : Bool). cond b 1 0) (eq-eqb x.number n (sym e)) in
    omega (arith, here, sum)
some_of n (x ∷ xs) (suc k) d h e =
    let sum = sum_by-cons (at_number n) x xs in
    let rest = some_of n xs k d (omega (arith, h)) e in
    omega (arith, rest, sum)

numbered_by : (xs : List Candidate) → ((n : ℕ) → sum_by (at_number n) xs ≤ 1) → IsNumbered xs
numbered_by [] few = λ i j d h k. absurd (omega arith)
numbered_by (x ∷ xs) few =
    let first : All (λ b. x.number ≢ b.number) xs = λ k d h e.
    let sum = sum_by-cons (at_number x.number) x xs in
    let here : at_number x.number x ≡ 1 = ap (λ (b : Bool). cond b 1 0) (eq-eqb x.number x.number refl) in
    let rest = some_of x.number xs k d h e in
    let all = few x.number in
    absurd (omega (arith, here, rest, sum, all)) in
    AllPairs-cons (λ a b. a.number ≢ b.number) x xs first (numbered_by xs (λ n. let sum = sum_by-cons (at_number n) x xs in let all = few n in omega (arith, sum, all)))

pub numbered_same : (xs ys : List Candidate) → IsPermutation xs ys → IsNumbered xs → IsNumbered ys
numbered_same xs ys same numbered =
    numbered_by ys (λ n. let sum = sum_by-IsPermutation (at_number n) xs ys same in let few = one_of n xs numbered in omega (arith, sum, few))

-- ---- RISING LISTS

contains_first : (x : Candidate) (xs : List Candidate) → Contains (x ∷ xs) x
contains_first x xs = (0, omega arith, refl)

contains_later : (x : Candidate) (xs : List Candidate) (a : Candidate) → Contains xs a → Contains (x ∷ xs) a
contains_later x xs a at = (suc at.0, (let h = at.1 in omega (arith, h)), at.2)

pub contains_parts : (x : Candidate) (xs : List Candidate) (a : Candidate) → Contains (x ∷ xs) a → (x ≡ a) ⊎ Contains xs a
contains_parts x xs a at = by_place at.0 at.1 at.2
  where
    by_place : (k : ℕ) → k < length (x ∷ xs) → get_or (x ∷ xs) k a ≡ a → (x ≡ a) ⊎ Contains xs a
    by_place zero h e = inl e
    by_place (suc k) h e = inr (k, omega (arith, h), e)

after_first : (a : Candidate) (xs : List Candidate) → IsRising (a ∷ xs) → (x : Candidate) → Contains xs x → is_before a x ≡ true
after_first a xs rising x at = All-contains (λ b. is_before a b ≡ true) xs x (rising_first a xs rising) at

-- what is after the first is not the first
never_first : (a : Candidate) (xs : List Candidate) → IsRising (a ∷ xs) → Contains xs a → ⊥
never_first a xs rising at = let clash : true ≡ false = sym (after_first a xs rising a at) ∙ before_itself a in cc

firsts_same : (a b : Candidate) (us vs : List Candidate) → IsRising (a ∷ us) → IsRising (b ∷ vs) → Contains (b ∷ vs) a → Contains (a ∷ us) b → a ≡ b
firsts_same a b us vs ra rb ab ba =
    elim (contains_parts b vs a ab) [
      | inl same ↦ sym same
      | inr following ↦ elim (contains_parts a us b ba) [
        | inl same ↦ same
        | inr after ↦
            let one = after_first b vs rb a following in
            let other = after_first a us ra b after in
            absurd (let clash : true ≡ false = sym other ∙ before_reverse b a one in cc)
      ]
    ]

rest_within : (a b : Candidate) (us vs : List Candidate) → IsRising (a ∷ us) → a ≡ b → ((x : Candidate) → Contains (a ∷ us) x → Contains (b ∷ vs) x) → (x : Candidate) → Contains us x → Contains vs x
rest_within a b us vs ra same within x at =
    elim (contains_parts b vs x (within x (contains_later a us x at))) [
      | inl e ↦ absurd (never_first a us ra (subst (λ c. Contains us c) (sym (same ∙ e)) at))
      | inr later ↦ later
    ]

-- two with the same tasks are one
pub rising_same : (xs ys : List Candidate) → IsRising xs → IsRising ys → ((x : Candidate) → Contains xs x → Contains ys x) → ((x : Candidate) → Contains ys x → Contains xs x) → xs ≡ ys
rising_same [] [] rx ry there back = refl
rising_same [] (b ∷ ys) rx ry there back = absurd (let h = (back b (contains_first b ys)).1 in omega (arith, h))
rising_same (a ∷ xs) [] rx ry there back = absurd (let h = (there a (contains_first a xs)).1 in omega (arith, h))
rising_same (a ∷ xs) (b ∷ ys) rx ry there back =
    let same : a ≡ b = firsts_same a b xs ys rx ry (there a (contains_first a xs)) (back b (contains_first b ys)) in
    ap (λ (c : Candidate). c ∷ xs) same
    ∙ ap (λ (zs : List Candidate). b ∷ zs)
    (rising_same xs ys (rising_rest a xs rx) (rising_rest b ys ry) (rest_within a b xs ys rx same there) (rest_within b a ys xs ry (sym same) back))

pub ordered_same : (xs ys : List Candidate) → IsNumbered xs → IsPermutation xs ys → by_deadline xs ≡ by_deadline ys
ordered_same xs ys numbered same =
    rising_same (by_deadline xs) (by_deadline ys) (rising_ordered xs numbered) (rising_ordered ys (numbered_same xs ys same numbered))
    (λ x at. contains_ordered x ys (Contains-permutation xs ys x same (contains_from_ordered x xs at)))
    (λ x at. contains_ordered x xs (Contains-permutation ys xs x (IsPermutation-sym xs ys same) (contains_from_ordered x ys at)))

before_first : (a : Candidate) (xs : List Candidate) → All (λ b. is_before a b ≡ true) xs → with_candidate a xs ≡ a ∷ xs
before_first a [] all = refl
before_first a (b ∷ xs) all = with_here b a xs (before_reverse a b (All-head (λ b. is_before a b ≡ true) b xs all))

pub ordered_rising : (xs : List Candidate) → IsRising xs → by_deadline xs ≡ xs
ordered_rising [] rising = refl
ordered_rising (a ∷ xs) rising =
    ap (λ (ys : List Candidate). with_candidate a ys) (ordered_rising xs (rising_rest a xs rising))
    ∙ before_first a xs (rising_first a xs rising)

-- ---- SOME OF THEM

pub contains_filter : (p : Candidate → Bool) (xs : List Candidate) (x : Candidate) → Contains xs x → p x ≡ true → Contains (filter p xs) x
contains_filter p [] x at passes = absurd (let h = at.1 in omega (arith, h))
contains_filter p (a ∷ xs) x at passes =
    elim (cases_Bool (p a)) [
      | inl e ↦ subst (λ ys. Contains ys x) (sym (cond-true (p a) (a ∷ filter p xs) (filter p xs) e))
          (elim (contains_parts a xs x at) [
            | inl same ↦ subst (λ c. Contains (a ∷ filter p xs) c) same (contains_first a (filter p xs))
            | inr later ↦ contains_later a (filter p xs) x (contains_filter p xs x later passes)
          ])
      | inr e ↦ subst (λ ys. Contains ys x) (sym (cond-false (p a) (a ∷ filter p xs) (filter p xs) e))
          (elim (contains_parts a xs x at) [
            | inl same ↦ absurd (let clash : true ≡ false = sym passes ∙ ap p (sym same) ∙ e in cc)
            | inr later ↦ contains_filter p xs x later passes
          ])
    ]

pub contains_from_filter : (p : Candidate → Bool) (xs : List Candidate) (x : Candidate) → Contains (filter p xs) x → Contains xs x × (p x ≡ true)
contains_from_filter p [] x at = absurd (let h = at.1 in omega (arith, h))
contains_from_filter p (a ∷ xs) x at =
    let following : Contains (filter p xs) x → Contains (a ∷ xs) x × (p x ≡ true) = λ later. let rest = contains_from_filter p xs x later in (contains_later a xs x rest.0, rest.1) in
    elim (cases_Bool (p a)) [
      | inl e ↦ elim (contains_parts a (filter p xs) x (subst (λ ys. Contains ys x) (cond-true (p a) (a ∷ filter p xs) (filter p xs) e) at)) [
        | inl same ↦ (subst (λ c. Contains (a ∷ xs) c) same (contains_first a xs), ap p (sym same) ∙ e)
        | inr later ↦ following later
      ]
      | inr e ↦ following (subst (λ ys. Contains ys x) (cond-false (p a) (a ∷ filter p xs) (filter p xs) e) at)
    ]

pub ordered_filter : (p : Candidate → Bool) (xs : List Candidate) → IsNumbered xs → filter p (by_deadline xs) ≡ by_deadline (filter p xs)
ordered_filter p xs numbered =
    rising_same (filter p (by_deadline xs)) (by_deadline (filter p xs))
    (AllPairs-filter (λ a b. is_before a b ≡ true) p (by_deadline xs) (rising_ordered xs numbered))
    (rising_ordered (filter p xs) (AllPairs-filter (λ a b. a.number ≢ b.number) p xs numbered))
    (λ x at. let parts = contains_from_filter p (by_deadline xs) x at in contains_ordered x (filter p xs) (contains_filter p xs x (contains_from_ordered x xs parts.0) parts.1))
    (λ x at. let parts = contains_from_filter p xs x (contains_from_ordered x (filter p xs) at) in contains_filter p (by_deadline xs) x (contains_ordered x xs parts.0) parts.1)

pub ordered_without : (c : Candidate) (xs : List Candidate) → IsNumbered xs → without_candidate c (by_deadline xs) ≡ by_deadline (without_candidate c xs)
ordered_without c xs numbered = ordered_filter (λ a. not (is_same a c)) xs numbered

-- ---- EACH CHANGED

-- what keeps deadline and number
abbrev pub KeepsPlace : (Candidate → Candidate) → Type 0
KeepsPlace f = (c : Candidate) → ((f c).deadline ≡ c.deadline) × ((f c).number ≡ c.number)

abbrev before_test : ℕ → ℕ → ℕ → ℕ → Bool
before_test d n e m = ltb d e || (eqb d e && ltb n m)

before_kept : (f : Candidate → Candidate) → KeepsPlace f → (a b : Candidate) → is_before (f a) (f b) ≡ is_before a b
before_kept f keeps a b =
    ap (λ (d : ℕ). before_test d (f a).number (f b).deadline (f b).number) (keeps a).0
    ∙ ap (λ (n : ℕ). before_test a.deadline n (f b).deadline (f b).number) (keeps a).1
    ∙ ap (λ (e : ℕ). before_test a.deadline a.number e (f b).number) (keeps b).0
    ∙ ap (λ (m : ℕ). before_test a.deadline a.number b.deadline m) (keeps b).1

map_with : (f : Candidate → Candidate) → KeepsPlace f → (c : Candidate) (xs : List Candidate) → map f (with_candidate c xs) ≡ with_candidate (f c) (map f xs)
map_with f keeps c [] = refl
map_with f keeps c (a ∷ xs) =
    elim (cases_Bool (is_before a c)) [
      | inl e ↦
          ap (λ (ys : List Candidate). map f ys) (with_later a c xs e)
          ∙ ap (λ (ys : List Candidate). f a ∷ ys) (map_with f keeps c xs)
          ∙ sym (with_later (f a) (f c) (map f xs) (before_kept f keeps a c ∙ e))
      | inr e ↦
          ap (λ (ys : List Candidate). map f ys) (with_here a c xs e)
          ∙ sym (with_here (f a) (f c) (map f xs) (before_kept f keeps a c ∙ e))
    ]

pub ordered_map : (f : Candidate → Candidate) → KeepsPlace f → (xs : List Candidate) → map f (by_deadline xs) ≡ by_deadline (map f xs)
ordered_map f keeps [] = refl
ordered_map f keeps (c ∷ xs) = map_with f keeps c (by_deadline xs) ∙ ap (λ (ys : List Candidate). with_candidate (f c) ys) (ordered_map f keeps xs)

-- ---- SOME After THE OTHERS

pub rising_append : (xs ys : List Candidate) → IsRising xs → IsRising ys → All (λ a. All (λ b. is_before a b ≡ true) ys) xs → IsRising (xs ++ ys)
rising_append [] ys rx ry apart = ry
rising_append (a ∷ xs) ys rx ry apart =
    AllPairs-cons (λ a b. is_before a b ≡ true) a (xs ++ ys)
    (All-append (λ b. is_before a b ≡ true) xs ys (rising_first a xs rx) (All-head (λ a. All (λ b. is_before a b ≡ true) ys) a xs apart))
    (rising_append xs ys (rising_rest a xs rx) ry (All-tail (λ a. All (λ b. is_before a b ≡ true) ys) a xs apart))

pub all_left : (P : Candidate → Type 0) (xs ys : List Candidate) → All P (xs ++ ys) → All P xs
all_left P [] ys all = All-nil P
all_left P (x ∷ xs) ys all = All-cons P x xs (All-head P x (xs ++ ys) all) (all_left P xs ys (All-tail P x (xs ++ ys) all))

pub numbered_left : (xs ys : List Candidate) → IsNumbered (xs ++ ys) → IsNumbered xs
numbered_left [] ys numbered = λ i j d h k. absurd (omega arith)
numbered_left (x ∷ xs) ys numbered =
    AllPairs-cons (λ a b. a.number ≢ b.number) x xs (all_left (λ b. x.number ≢ b.number) xs ys (numbered_first x (xs ++ ys) numbered)) (numbered_left xs ys (numbered_rest x (xs ++ ys) numbered))

pub ordered_parted : (xs ys : List Candidate) → IsNumbered (xs ++ ys) → IsRising ys → All (λ a. All (λ b. is_before a b ≡ true) ys) xs → by_deadline (xs ++ ys) ≡ by_deadline xs ++ ys
ordered_parted xs ys numbered rising apart =
    ordered_same (xs ++ ys) (by_deadline xs ++ ys) numbered (IsPermutation-append_left ys xs (by_deadline xs) (permuted xs))
    ∙ ordered_rising (by_deadline xs ++ ys)
    (rising_append (by_deadline xs) ys (rising_ordered xs (numbered_left xs ys numbered)) rising
    (All-permutation (λ a. All (λ b. is_before a b ≡ true) ys) xs (by_deadline xs) (permuted xs) apart))
