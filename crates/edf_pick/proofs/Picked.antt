-- The first tasks of a queue are the chosen ones.
use Rattle.std.proofs.Common.{◌≡◌, ◌<◌, ◌≤◌, ℕ, zero, suc, ◌+◌, Bool, true, false, cond, eqb, ltb, ◌&&◌, ◌||◌, List, [], ◌∷◌, length, get_or, map, take, Option, Some, None, refl, sym, ap, ◌∙◌, arith, inl, inr, zero-add, eq-eqb}
use Rattle.std.specs.Prelude.{All, slice_get, count_by, sum_by}
use Rattle.std.specs.List.{prefix_len, list_any}
use Rattle.std.specs.List.Sorted.{IsPartitionedBy}
use Rattle.std.proofs.lemmas.Bool.{or_from, and_right, cases_lt, both_ways, false_from_ne_true, lt-ltb, le-ltb, ne_eqb}
use Rattle.std.proofs.lemmas.List.{take_all}
use Rattle.std.proofs.lemmas.List.Elements.{All-head, All-tail}
use Rattle.std.proofs.lemmas.List.Folds.{find_at}
use Rattle.std.proofs.lemmas.List.Sums.{sum_by-cons, prefix_len_is, position_or_len_is, fold_more}
use Rattle.std.proofs.lemmas.Option.{slice_get-get_or, slice_get_past}
use Rattle.edf_pick.specs.declared.candidate.Candidate.{Candidate}
use Rattle.edf_pick.specs.Choice.{is_before, rank, is_chosen, candidate_at_rank}
use Rattle.edf_pick.specs.Order.{IsRising}
use Rattle.edf_pick.specs.Places.{Places, is_chosen_number, kept_if_chosen, assigned, assigned_if, assigned_upto, placed}
use Rattle.edf_pick.specs.private.First.{kept_running, assigned_all}
use Rattle.edf_pick.proofs.Before.{before_itself}
use Rattle.edf_pick.proofs.Rising.{place, rising_parted}

-- what is read past the end
abbrev nobody : Candidate
nobody = record { deadline = 0; number = 0; home = 0 }

-- RANK
count_none : (p : Candidate → Bool) (xs : List Candidate) → All (λ x. p x ≡ false) xs → count_by p xs ≡ 0
count_none p [] all = refl
count_none p (x ∷ xs) all =
    let one : Candidate → ℕ = λ y. cond (p y) 1 0 in
    let here : cond (p x) 1 0 ≡ 0 = ap (λ (b : Bool). cond b 1 0) (All-head (λ x. p x ≡ false) x xs all) in
    sum_by-cons one x xs ∙ ap (λ (n : ℕ). n + sum_by one xs) here ∙ zero-add (sum_by one xs) ∙ count_none p xs (All-tail (λ x. p x ≡ false) x xs all)

count_prefix : (p : Candidate → Bool) (xs : List Candidate) → IsPartitionedBy p xs → count_by p xs ≡ prefix_len p xs
count_prefix p [] parted = refl
count_prefix p (x ∷ xs) parted =
    let one : Candidate → ℕ = λ y. cond (p y) 1 0 in
    let rest = count_prefix p xs (λ i j d h k. parted (suc i) (suc j) d (omega arith) (omega arith)) in
    sum_by-cons one x xs
    ∙ (elim (p x) as (λ b. p x ≡ b → cond b 1 0 + sum_by one xs ≡ cond b (1 + prefix_len p xs) 0) [
      | true ↦ λ e. ap (λ (n : ℕ). 1 + n) rest
      | false ↦ λ e.
          let none : All (λ y. p y ≡ false) xs = λ k d h. false_from_ne_true (p (get_or xs k d)) (λ t. both_ways (p x) e (parted 0 (suc k) d (omega arith) (omega arith) t)) in
          let nothing : sum_by one xs ≡ 0 = count_none p xs none in
          zero-add (sum_by one xs) ∙ nothing
    ] refl)

-- in a queue as many are before a task as run in front of its place
pub rank_place : (queue : List Candidate) (c : Candidate) → IsRising queue → rank queue c ≡ place c queue
rank_place queue c rising = count_prefix (λ a. is_before a c) queue (rising_parted c queue rising)

pub place_at : (queue : List Candidate) (k : ℕ) (d : Candidate) → IsRising queue → k < length queue → place (get_or queue k d) queue ≡ k
place_at queue k d rising h = prefix_len_is (λ a. is_before a (get_or queue k d)) queue k d (omega arith) (λ j l. rising j k d l h) (λ _. before_itself (get_or queue k d))

rank_at : (queue : List Candidate) (k : ℕ) (d : Candidate) → IsRising queue → k < length queue → rank queue (get_or queue k d) ≡ k
rank_at queue k d rising h = rank_place queue (get_or queue k d) rising ∙ place_at queue k d rising h

-- STAYING
and_true : (a b : Bool) → b ≡ true → (a && b) ≡ a
and_true true b e = e
and_true false b e = refl

any_first : (p r : Candidate → Bool) (xs : List Candidate) (m : ℕ) → ((k : ℕ) (d : Candidate) → k < length xs → k < m → r (get_or xs k d) ≡ true) → ((k : ℕ) (d : Candidate) → k < length xs → m ≤ k → r (get_or xs k d) ≡ false)
    → list_any (λ x. p x && r x) xs ≡ list_any p (take m xs)
any_first p r [] zero inside outside = refl
any_first p r [] (suc m) inside outside = refl
any_first p r (x ∷ xs) zero inside outside =
    or_from (p x && r x) (list_any (λ x. p x && r x) xs) (and_right (p x) (r x) (outside 0 x (omega arith) (omega arith)))
    (any_first p r xs zero (λ k d h l. absurd (omega arith)) (λ k d h l. outside (suc k) d (omega arith) (omega arith)))
any_first p r (x ∷ xs) (suc m) inside outside =
    let rest = any_first p r xs m (λ k d h l. inside (suc k) d (omega arith) (omega arith)) (λ k d h l. outside (suc k) d (omega arith) (omega arith)) in
    let here : (p x && r x) ≡ p x = and_true (p x) (r x) (inside 0 x (omega arith) (omega arith)) in
    ap (λ (b : Bool). b || list_any (λ x. p x && r x) xs) here ∙ ap (λ (b : Bool). p x || b) rest

number_first : (cpus : ℕ) (queue : List Candidate) (n : ℕ) → IsRising queue → is_chosen_number cpus queue n ≡ list_any (λ c. eqb c.number n) (take cpus queue)
number_first cpus queue n rising =
    any_first (λ c. eqb c.number n) (λ c. is_chosen cpus queue c) queue cpus
    (λ k d h l. ap (λ (j : ℕ). ltb j cpus) (rank_at queue k d rising h) ∙ lt-ltb k cpus l)
    (λ k d h l. ap (λ (j : ℕ). ltb j cpus) (rank_at queue k d rising h) ∙ le-ltb k cpus l)

kept_is : (cpus : ℕ) (queue : List Candidate) (occupant : Option ℕ) → IsRising queue → kept_running (take cpus queue) occupant ≡ kept_if_chosen cpus queue occupant
kept_is cpus queue None rising = refl
kept_is cpus queue (Some n) rising = ap (λ (b : Bool). cond b (Some n) None) (sym (number_first cpus queue n rising))

pub map_same : (f g : Option ℕ → Option ℕ) → ((o : Option ℕ) → f o ≡ g o) → (places : Places) → map f places ≡ map g places
map_same f g same [] = refl
map_same f g same (o ∷ places) = ap (λ (x : Option ℕ). x ∷ map f places) (same o) ∙ ap (λ (xs : Places). g o ∷ xs) (map_same f g same places)

-- SEATED
ranked_is : (queue : List Candidate) (r : ℕ) → IsRising queue → candidate_at_rank queue r ≡ slice_get queue r
ranked_is queue r rising =
    let test = λ (c : Candidate). eqb (rank queue c) r in
    let at : (k : ℕ) → k < length queue → test (get_or queue k nobody) ≡ eqb k r = λ k h. ap (λ (j : ℕ). eqb j r) (rank_at queue k nobody rising h) in
    find_at test queue
    ∙ (elim (cases_lt r (length queue)) [
      | inl h ↦ ap (λ (k : ℕ). slice_get queue k)
          (position_or_len_is test queue r nobody (omega arith) (λ k l. at k (omega arith) ∙ ne_eqb k r (λ e. omega arith)) (λ _. at r h ∙ eq-eqb r r refl))
      | inr h ↦ ap (λ (k : ℕ). slice_get queue k)
          (position_or_len_is test queue (length queue) nobody (omega arith) (λ k l. at k l ∙ ne_eqb k r (λ e. omega arith)) (λ l. absurd (omega arith)))
          ∙ slice_get_past queue (length queue) (omega arith) ∙ sym (slice_get_past queue r h)
    ])

pub assigned_more : (chosen : List Candidate) (places : Places) (i : ℕ) (d : Candidate) → i < length chosen → assigned_all (take (i + 1) chosen) places ≡ assigned (assigned_all (take i chosen) places) (get_or chosen i d)
assigned_more chosen places i d h = fold_more assigned places chosen i d h

assigned_first : (queue : List Candidate) (places : Places) (r : ℕ) → IsRising queue → assigned_upto queue places r ≡ assigned_all (take r queue) places
assigned_first queue places zero rising = refl
assigned_first queue places (suc r) rising =
    let before = assigned_all (take r queue) places in
    let one : r + 1 ≡ suc r = omega arith in
    ap (λ (o : Option Candidate). assigned_if (assigned_upto queue places r) o) (ranked_is queue r rising)
    ∙ ap (λ (ps : Places). assigned_if ps (slice_get queue r)) (assigned_first queue places r rising)
    ∙ (elim (cases_lt r (length queue)) [
      | inl h ↦ ap (λ (o : Option Candidate). assigned_if before o) (slice_get-get_or queue r nobody h)
          ∙ sym (assigned_more queue places r nobody h) ∙ ap (λ (k : ℕ). assigned_all (take k queue) places) one
      | inr h ↦ ap (λ (o : Option Candidate). assigned_if before o) (slice_get_past queue r h)
          ∙ ap (λ (xs : List Candidate). assigned_all xs places) (take_all r queue h ∙ sym (take_all (suc r) queue (omega arith)))
    ])

pub picked : (cpus : ℕ) (queue : List Candidate) (before : Places) → IsRising queue → assigned_all (take cpus queue) (map (kept_running (take cpus queue)) before) ≡ placed cpus queue before
picked cpus queue before rising =
    ap (λ (ps : Places). assigned_all (take cpus queue) ps) (map_same (kept_running (take cpus queue)) (kept_if_chosen cpus queue) (λ o. kept_is cpus queue o rising) before)
    ∙ sym (assigned_first queue (map (kept_if_chosen cpus queue) before) cpus rising)
