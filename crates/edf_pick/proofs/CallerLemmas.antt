-- For the crate above: a queue that holds the tasks of a list, in order.
use Rattle.std.proofs.Common.{◌≡◌, ◌≢◌, ◌<◌, ℕ, zero, suc, Bool, true, false, cond, eqb, ltb, ◌&&◌, List, [], ◌∷◌, ◌++◌, length, get_or, map, Option, Some, None, refl, sym, subst, ap, ◌∙◌, arith, inl, inr}
use Rattle.std.specs.Prelude.{All, AllPairs, Contains, find, not}
use Rattle.std.specs.List.{list_any}
use Rattle.std.specs.List.Sorted.{IsPermutation}
use Rattle.std.proofs.lemmas.Bool.{or_parts, or_left, or_right, cases_Bool, cond-true, cond-false, eqb-true, ne_eqb}
use Rattle.std.proofs.lemmas.List.{get_or_default}
use Rattle.std.proofs.lemmas.List.Elements.{All-cons, All-head, All-tail, All-weaker, All-map, Contains-get_or}
use Rattle.std.proofs.lemmas.List.Folds.{list_any_none}
use Rattle.std.proofs.lemmas.List.Kept.{AllPairs-cons}
use Rattle.std.proofs.lemmas.List.Sorted.{IsPermutation-refl, IsPermutation-sym, IsPermutation-cons, IsPermutation-trans, IsPermutation-insert, length_permutation, list_any-IsPermutation, sum_by-IsPermutation, Contains-permutation}
use mathlib.Core.Path.{fun_ext}
use Rattle.edf_pick.specs.declared.candidate.Candidate.{Candidate}
use Rattle.edf_pick.specs.Choice.{is_before, rank, candidate_at_rank}
use Rattle.edf_pick.specs.Order.{IsRising, is_same, has_candidate, with_candidate, without_candidate, by_deadline}
use Rattle.edf_pick.specs.Places.{Places, is_chosen_number, kept_if_chosen, assigned_if, assigned_upto, placed}
use Rattle.edf_pick.proofs.Before.{before_reverse, before_other, before_past, same_itself, number_differs}
use Rattle.edf_pick.proofs.Rising.{place, insert_place, rising_with, without_absent}
use Rattle.edf_pick.proofs.Picked.{map_same, rank_place, place_at}
pub use Rattle.edf_pick.proofs.Moving.{same_is, moved_length}
pub use Rattle.edf_pick.proofs.Resting.{all_homes}

-- no two tasks have one number
abbrev pub IsNumbered : List Candidate → Type 0
IsNumbered xs = AllPairs (λ a b. a.number ≢ b.number) xs

pub numbered_first : (c : Candidate) (xs : List Candidate) → IsNumbered (c ∷ xs) → All (λ b. c.number ≢ b.number) xs
numbered_first c xs numbered k d h = numbered 0 (suc k) d (omega arith) (omega arith)

pub numbered_rest : (c : Candidate) (xs : List Candidate) → IsNumbered (c ∷ xs) → IsNumbered xs
numbered_rest c xs numbered i j d h k = numbered (suc i) (suc j) d (omega arith) (omega arith)

-- tasks seen as candidates keep their numbers
pub numbered_map : {X : Type 0} (f : X → Candidate) (number : X → ℕ) → ((x : X) → (f x).number ≡ number x) → (xs : List X) → AllPairs (λ x y. number x ≢ number y) xs → IsNumbered (map f xs)
numbered_map f number same [] numbered = λ i j d h k. absurd (omega arith)
numbered_map {X} f number same (x ∷ xs) numbered =
    let first : All (λ y. (f x).number ≢ (f y).number) xs = λ k d h e. numbered 0 (suc k) d (omega arith) (omega arith) (sym (same x) ∙ e ∙ same (get_or xs k d)) in
    let rest = numbered_map f number same xs (λ i j d h k. numbered (suc i) (suc j) d (omega arith) (omega arith)) in
    AllPairs-cons (λ a b. a.number ≢ b.number) (f x) (map f xs) (All-map (λ b. (f x).number ≢ b.number) f xs first) rest

-- THE SAME TASKS
-- a list in order has the tasks of the list
pub permuted : (xs : List Candidate) → IsPermutation xs (by_deadline xs)
permuted [] = IsPermutation-refl []
permuted (c ∷ xs) =
    IsPermutation-trans (c ∷ xs) (c ∷ by_deadline xs) (with_candidate c (by_deadline xs)) (IsPermutation-cons c xs (by_deadline xs) (permuted xs))
    (subst (λ ys. IsPermutation (c ∷ by_deadline xs) ys) (sym (insert_place c (by_deadline xs))) (IsPermutation-insert (by_deadline xs) (place c (by_deadline xs)) c))

pub length_ordered : (xs : List Candidate) → length (by_deadline xs) ≡ length xs
length_ordered xs = length_permutation xs (by_deadline xs) (permuted xs)

pub has_ordered : (c : Candidate) (xs : List Candidate) → has_candidate c (by_deadline xs) ≡ has_candidate c xs
has_ordered c xs = sym (list_any-IsPermutation (λ a. is_same a c) xs (by_deadline xs) (permuted xs))

pub contains_ordered : (c : Candidate) (xs : List Candidate) → Contains xs c → Contains (by_deadline xs) c
contains_ordered c xs h = Contains-permutation xs (by_deadline xs) c (permuted xs) h

pub contains_from_ordered : (c : Candidate) (xs : List Candidate) → Contains (by_deadline xs) c → Contains xs c
contains_from_ordered c xs h = Contains-permutation (by_deadline xs) xs c (IsPermutation-sym xs (by_deadline xs) (permuted xs)) h

-- ONE MORE, ONE LESS
all_middle : (P : Candidate → Type 0) (xs : List Candidate) (c : Candidate) (ys : List Candidate) → All P (xs ++ c ∷ ys) → P c
all_middle P [] c ys all = All-head P c ys all
all_middle P (x ∷ xs) c ys all = all_middle P xs c ys (All-tail P x (xs ++ c ∷ ys) all)

others_differ : (c : Candidate) (xs ys : List Candidate) → IsNumbered (xs ++ c ∷ ys) → All (λ a. is_same a c ≡ false) (xs ++ ys)
others_differ c [] ys numbered =
    All-weaker (λ b. c.number ≢ b.number) (λ a. is_same a c ≡ false) (λ b h. number_differs b c (λ e. h (sym e))) ys (numbered_first c ys numbered)
others_differ c (x ∷ xs) ys numbered =
    All-cons (λ a. is_same a c ≡ false) x (xs ++ ys)
    (number_differs x c (all_middle (λ b. x.number ≢ b.number) xs c ys (numbered_first x (xs ++ c ∷ ys) numbered)))
    (others_differ c xs ys (numbered_rest x (xs ++ c ∷ ys) numbered))

-- the condition of `insert`
pub ordered_absent : (c : Candidate) (xs ys : List Candidate) → IsNumbered (xs ++ c ∷ ys) → has_candidate c (by_deadline (xs ++ ys)) ≡ false
ordered_absent c xs ys numbered = has_ordered c (xs ++ ys) ∙ list_any_none (λ a. is_same a c) (xs ++ ys) (others_differ c xs ys numbered)

there : (c : Candidate) (xs ys : List Candidate) → has_candidate c (xs ++ c ∷ ys) ≡ true
there c [] ys = or_left (is_same c c) (has_candidate c ys) (same_itself c)
there c (x ∷ xs) ys = or_right (is_same x c) (has_candidate c (xs ++ c ∷ ys)) (there c xs ys)

-- what `remove` answers
pub ordered_there : (c : Candidate) (xs ys : List Candidate) → has_candidate c (by_deadline (xs ++ c ∷ ys)) ≡ true
ordered_there c xs ys = has_ordered c (xs ++ c ∷ ys) ∙ there c xs ys

pub with_later : (a c : Candidate) (queue : List Candidate) → is_before a c ≡ true → with_candidate c (a ∷ queue) ≡ a ∷ with_candidate c queue
with_later a c queue h = cond-true (is_before a c) (a ∷ with_candidate c queue) (c ∷ a ∷ queue) h

pub with_here : (a c : Candidate) (queue : List Candidate) → is_before a c ≡ false → with_candidate c (a ∷ queue) ≡ c ∷ a ∷ queue
with_here a c queue h = cond-false (is_before a c) (a ∷ with_candidate c queue) (c ∷ a ∷ queue) h

following : (a : Candidate) (xs ys : List Candidate) → xs ≡ ys → a ∷ xs ≡ a ∷ ys
following a xs ys e = ap (λ (zs : List Candidate). a ∷ zs) e

taken_in : (c : Candidate) (xs ys : List Candidate) → xs ≡ ys → with_candidate c xs ≡ with_candidate c ys
taken_in c xs ys e = ap (λ (zs : List Candidate). with_candidate c zs) e

-- two of different places go in in either order
with_swap : (c x : Candidate) (queue : List Candidate) → is_same x c ≡ false → with_candidate x (with_candidate c queue) ≡ with_candidate c (with_candidate x queue)
with_swap c x [] other =
    elim (cases_Bool (is_before x c)) [
      | inl xc ↦ with_here c x [] (before_reverse x c xc) ∙ sym (with_later x c [] xc)
      | inr xc ↦ with_later c x [] (before_other x c xc other) ∙ sym (with_here x c [] xc)
    ]
with_swap c x (a ∷ queue) other =
    elim (cases_Bool (is_before a c)) [
      | inl ac ↦ elim (cases_Bool (is_before a x)) [
        | inl ax ↦ taken_in x _ _ (with_later a c queue ac) ∙ with_later a x (with_candidate c queue) ax ∙ following a _ _ (with_swap c x queue other)
            ∙ sym (with_later a c (with_candidate x queue) ac) ∙ sym (taken_in c _ _ (with_later a x queue ax))
        | inr ax ↦ taken_in x _ _ (with_later a c queue ac) ∙ with_here a x (with_candidate c queue) ax ∙ sym (following x _ _ (with_later a c queue ac))
            ∙ sym (with_later x c (a ∷ queue) (before_past a x c ax ac)) ∙ sym (taken_in c _ _ (with_here a x queue ax))
      ]
      | inr ac ↦ elim (cases_Bool (is_before a x)) [
        | inl ax ↦ taken_in x _ _ (with_here a c queue ac) ∙ with_later c x (a ∷ queue) (before_past a c x ac ax) ∙ following c _ _ (with_later a x queue ax)
            ∙ sym (with_here a c (with_candidate x queue) ac) ∙ sym (taken_in c _ _ (with_later a x queue ax))
        | inr ax ↦ elim (cases_Bool (is_before x c)) [
          | inl xc ↦ taken_in x _ _ (with_here a c queue ac) ∙ with_here c x (a ∷ queue) (before_reverse x c xc) ∙ sym (following x _ _ (with_here a c queue ac))
              ∙ sym (with_later x c (a ∷ queue) xc) ∙ sym (taken_in c _ _ (with_here a x queue ax))
          | inr xc ↦ taken_in x _ _ (with_here a c queue ac) ∙ with_later c x (a ∷ queue) (before_other x c xc other) ∙ following c _ _ (with_here a x queue ax)
              ∙ sym (with_here x c (a ∷ queue) xc) ∙ sym (taken_in c _ _ (with_here a x queue ax))
        ]
      ]
    ]

-- what `insert` leaves is the order of the longer list
pub ordered_insert : (c : Candidate) (xs ys : List Candidate) → IsNumbered (xs ++ c ∷ ys) → by_deadline (xs ++ c ∷ ys) ≡ with_candidate c (by_deadline (xs ++ ys))
ordered_insert c [] ys numbered = refl
ordered_insert c (x ∷ xs) ys numbered =
    taken_in x _ _ (ordered_insert c xs ys (numbered_rest x (xs ++ c ∷ ys) numbered))
    ∙ with_swap c x (by_deadline (xs ++ ys)) (number_differs x c (all_middle (λ b. x.number ≢ b.number) xs c ys (numbered_first x (xs ++ c ∷ ys) numbered)))

without_with : (c : Candidate) (queue : List Candidate) → has_candidate c queue ≡ false → without_candidate c (with_candidate c queue) ≡ queue
without_with c [] absent = ap (λ (b : Bool). cond (not b) (c ∷ []) []) (same_itself c)
without_with c (a ∷ queue) absent =
    let parts = or_parts (is_same a c) (has_candidate c queue) absent in
    let rest = without_candidate c (with_candidate c queue) in
    let all = without_candidate c (a ∷ queue) in
    elim (cases_Bool (is_before a c)) [
      | inl ac ↦ ap (λ (zs : List Candidate). without_candidate c zs) (with_later a c queue ac) ∙ ap (λ (b : Bool). cond (not b) (a ∷ rest) rest) parts.0 ∙ following a _ _ (without_with c queue parts.1)
      | inr ac ↦ ap (λ (zs : List Candidate). without_candidate c zs) (with_here a c queue ac) ∙ ap (λ (b : Bool). cond (not b) (c ∷ all) all) (same_itself c) ∙ without_absent c (a ∷ queue) absent
    ]

-- what `remove` leaves is the order of the shorter list
pub ordered_remove : (c : Candidate) (xs ys : List Candidate) → IsNumbered (xs ++ c ∷ ys) → without_candidate c (by_deadline (xs ++ c ∷ ys)) ≡ by_deadline (xs ++ ys)
ordered_remove c xs ys numbered =
    ap (λ (zs : List Candidate). without_candidate c zs) (ordered_insert c xs ys numbered) ∙ without_with c (by_deadline (xs ++ ys)) (ordered_absent c xs ys numbered)

pub rising_ordered : (xs : List Candidate) → IsNumbered xs → IsRising (by_deadline xs)
rising_ordered [] numbered = λ i j d h k. absurd (omega arith)
rising_ordered (c ∷ xs) numbered = rising_with c (by_deadline xs) (rising_ordered xs (numbered_rest c xs numbered)) (ordered_absent c [] xs numbered)

-- THE SAME PLACEMENT
ranks : (xs : List Candidate) (c : Candidate) → rank (by_deadline xs) c ≡ rank xs c
ranks xs c =
    let one : Candidate → ℕ = λ a. cond (is_before a c) 1 0 in
    sum_by-IsPermutation one xs (by_deadline xs) (permuted xs)

chosen_same : (cpus : ℕ) (xs : List Candidate) (n : ℕ) → is_chosen_number cpus (by_deadline xs) n ≡ is_chosen_number cpus xs n
chosen_same cpus xs n =
    ap (λ (f : Candidate → ℕ). list_any (λ c. eqb c.number n && ltb (f c) cpus) (by_deadline xs)) (fun_ext (ranks xs))
    ∙ sym (list_any-IsPermutation (λ c. eqb c.number n && ltb (rank xs c) cpus) xs (by_deadline xs) (permuted xs))

kept_same : (cpus : ℕ) (xs : List Candidate) (occupant : Option ℕ) → kept_if_chosen cpus (by_deadline xs) occupant ≡ kept_if_chosen cpus xs occupant
kept_same cpus xs None = refl
kept_same cpus xs (Some n) = ap (λ (b : Bool). cond b (Some n) None) (chosen_same cpus xs n)

found_swap : (x y : Bool) (a b c : Option Candidate) → (y ≡ true → x ≡ false) → cond x a (cond y b c) ≡ cond y b (cond x a c)
found_swap x true a b c h = ap (λ (t : Bool). cond t a b) (h refl)
found_swap x false a b c h = refl

find_with : (p : Candidate → Bool) (c : Candidate) (queue : List Candidate) → (p c ≡ true → list_any p queue ≡ false) → find p (with_candidate c queue) ≡ find p (c ∷ queue)
find_with p c [] single = refl
find_with p c (a ∷ queue) single =
    elim (cases_Bool (is_before a c)) [
      | inl ac ↦ ap (λ (zs : List Candidate). find p zs) (with_later a c queue ac)
          ∙ ap (λ (o : Option Candidate). cond (p a) (Some a) o) (find_with p c queue (λ t. (or_parts (p a) (list_any p queue) (single t)).1))
          ∙ found_swap (p a) (p c) (Some a) (Some c) (find p queue) (λ t. (or_parts (p a) (list_any p queue) (single t)).0)
      | inr ac ↦ ap (λ (zs : List Candidate). find p zs) (with_here a c queue ac)
    ]

-- a test that at most one passes
find_ordered : (p : Candidate → Bool) (xs : List Candidate) → AllPairs (λ a b. p a ≡ true → p b ≡ false) xs → find p (by_deadline xs) ≡ find p xs
find_ordered p [] single = refl
find_ordered p (c ∷ xs) single =
    find_with p c (by_deadline xs) (λ t. sym (list_any-IsPermutation p xs (by_deadline xs) (permuted xs)) ∙ list_any_none p xs (λ k d h. single 0 (suc k) d (omega arith) (omega arith) t))
    ∙ ap (λ (o : Option Candidate). cond (p c) (Some c) o) (find_ordered p xs (λ i j d h k. single (suc i) (suc j) d (omega arith) (omega arith)))

-- a task runs in the order at the place that its rank says
rank_ordered : (xs : List Candidate) (c : Candidate) → IsNumbered xs → Contains xs c → (rank xs c < length (by_deadline xs)) × (get_or (by_deadline xs) (rank xs c) c ≡ c)
rank_ordered xs c numbered there =
    let queue = by_deadline xs in
    let rising = rising_ordered xs numbered in
    let at = contains_ordered c xs there in
    let placed_there : place c queue ≡ at.0 = ap (λ (a : Candidate). place a queue) (sym at.2) ∙ place_at queue at.0 c rising at.1 in
    let e : rank xs c ≡ at.0 = sym (ranks xs c) ∙ rank_place queue c rising ∙ placed_there in
    (subst (λ k. k < length queue) (sym e) at.1, ap (λ (k : ℕ). get_or queue k c) e ∙ at.2)

one_rank : (xs : List Candidate) (a b : Candidate) → IsNumbered xs → Contains xs a → Contains xs b → rank xs a ≡ rank xs b → a ≡ b
one_rank xs a b numbered ha hb e =
    let queue = by_deadline xs in
    let at_a = rank_ordered xs a numbered ha in
    let at_b = rank_ordered xs b numbered hb in
    sym at_a.1 ∙ get_or_default queue (rank xs a) a b at_a.0 ∙ ap (λ (k : ℕ). get_or queue k b) e ∙ at_b.1

ranked_same : (xs : List Candidate) (r : ℕ) → IsNumbered xs → candidate_at_rank (by_deadline xs) r ≡ candidate_at_rank xs r
ranked_same xs r numbered =
    let single : AllPairs (λ a b. eqb (rank xs a) r ≡ true → eqb (rank xs b) r ≡ false) xs = λ i j d h k t.
    let a = get_or xs i d in
    let b = get_or xs j d in
    ne_eqb (rank xs b) r (λ e. numbered i j d h k (ap (λ (c : Candidate). c.number) (one_rank xs a b numbered (Contains-get_or xs i d (omega arith)) (Contains-get_or xs j d k) (eqb-true (rank xs a) r t ∙ sym e)))) in
    ap (λ (f : Candidate → ℕ). find (λ c. eqb (f c) r) (by_deadline xs)) (fun_ext (ranks xs)) ∙ find_ordered (λ c. eqb (rank xs c) r) xs single

assigned_same : (xs : List Candidate) (places : Places) (r : ℕ) → IsNumbered xs → assigned_upto (by_deadline xs) places r ≡ assigned_upto xs places r
assigned_same xs places zero numbered = refl
assigned_same xs places (suc r) numbered =
    ap (λ (ps : Places). assigned_if ps (candidate_at_rank (by_deadline xs) r)) (assigned_same xs places r numbered)
    ∙ ap (λ (o : Option Candidate). assigned_if (assigned_upto xs places r) o) (ranked_same xs r numbered)

-- what `pick` does with a queue is what the definition says of any list of its tasks
pub placed_ordered : (cpus : ℕ) (xs : List Candidate) (before : Places) → IsNumbered xs → placed cpus (by_deadline xs) before ≡ placed cpus xs before
placed_ordered cpus xs before numbered =
    assigned_same xs (map (kept_if_chosen cpus (by_deadline xs)) before) cpus numbered
    ∙ ap (λ (ps : Places). assigned_upto xs ps cpus) (map_same (kept_if_chosen cpus (by_deadline xs)) (kept_if_chosen cpus xs) (λ o. kept_same cpus xs o) before)
