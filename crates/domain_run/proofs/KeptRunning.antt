-- A placement stays where it is, while the same tasks are ready with the same deadlines.
use Rattle.std.proofs.Common.{◌≡◌, ℕ, zero, suc, ◌+◌, ◌<◌, ◌≤◌, Bool, true, false, cond, eqb, ltb, ◌||◌, ◌&&◌, Option, Some, None, List, [], ◌∷◌, length, map, get_or, set, refl, sym, ap, subst, ◌∙◌, arith, inl, inr, eq-eqb}
use Rattle.std.specs.Prelude.{All, find, ◌⊎◌, position, is_none, slice_get, option_map, unwrap_or}
use Rattle.std.specs.List.{list_any, position_or_len}
use Rattle.std.proofs.lemmas.Bool.{cases_lt, eqb-true, lt-ltb, le-ltb}
use Rattle.std.proofs.lemmas.List.Elements.{All-set, All-map}
use Rattle.std.proofs.lemmas.List.Sums.{sum_by-cons}
use Rattle.std.proofs.lemmas.Option.{same_Some}
use Rattle.edf_pick.specs.declared.candidate.Candidate.{Candidate}
use Rattle.edf_pick.specs.Choice.{is_before, rank, candidate_at_rank}
use Rattle.edf_pick.specs.Places.{Places, is_task, is_on_cpu, is_chosen_number, kept_if_chosen, is_free, cpu_for, put, assigned, assigned_if, assigned_upto, placed}

-- ---- lists

pub map_itself : {X : Type 0} (f : X → X) (xs : List X) → All (λ x. f x ≡ x) xs → map f xs ≡ xs
map_itself f [] all = refl
map_itself f (x ∷ xs) all =
    let rest : All (λ y. f y ≡ y) xs = λ k d h. all (suc k) d (omega arith) in
    let first : f x ≡ x = all zero x (omega arith) in
    let more = map_itself f xs rest in
    λ i. first i ∷ more i

or_true : (b : Bool) → (b || true) ≡ true
or_true true = refl
or_true false = refl

or_false : (a b : Bool) → (a || b) ≡ false → (a ≡ false) × (b ≡ false)
or_false true b e = absurd cc
or_false false b e = (refl, e)

-- what is found settles a test that it passes
found_passes : {X : Type 0} (p q : X → Bool) (xs : List X) (x : X) → find p xs ≡ Some x → q x ≡ true → list_any q xs ≡ true
found_passes p q [] x e h = absurd cc
found_passes p q (y ∷ xs) x e h =
    elim (p y) as (λ b. cond b (Some y) (find p xs) ≡ Some x → (q y || list_any q xs) ≡ true) [
      | true ↦ λ a. let same : y ≡ x = same_Some y x a in rw (ap q same ∙ h) refl
      | false ↦ λ a. rw (found_passes p q xs x a h) (or_true (q y))
    ] e

find_is : {X : Type 0} (p : X → Bool) (xs : List X) (x : X) → find p xs ≡ Some x → p x ≡ true
find_is p [] x e = absurd cc
find_is p (y ∷ xs) x e =
    elim (p y) as (λ b. p y ≡ b → cond b (Some y) (find p xs) ≡ Some x → p x ≡ true) [
      | true ↦ λ is a. ap p (sym (same_Some y x a)) ∙ is
      | false ↦ λ is a. find_is p xs x a
    ] refl e

-- ---- another home changes nothing of the order

-- a candidate that belongs to the CPU where it runs
abbrev pub rehomed : Places → Candidate → Candidate
rehomed places c = record c { home = unwrap_or (position (is_task c.number) places) c.home }

rank_rehomed : (places : Places) (ready : List Candidate) (c : Candidate) → rank (map (rehomed places) ready) c ≡ rank ready c
rank_rehomed places [] c = refl
rank_rehomed places (a ∷ ready) c =
    let count = λ (x : Candidate). cond (is_before x c) 1 0 in
    sum_by-cons count (rehomed places a) (map (rehomed places) ready) ∙ ap (λ n. count a + n) (rank_rehomed places ready c) ∙ sym (sum_by-cons count a ready)

chosen_rehomed : (places : Places) (cpus number : ℕ) (r s : Candidate → ℕ) → ((c : Candidate) → r (rehomed places c) ≡ s c) → (ready : List Candidate)
    → list_any (λ c. eqb c.number number && ltb (r c) cpus) (map (rehomed places) ready) ≡ list_any (λ c. eqb c.number number && ltb (s c) cpus) ready
chosen_rehomed places cpus number r s same [] = refl
chosen_rehomed places cpus number r s same (c ∷ ready) =
    let first = same c in
    let more = chosen_rehomed places cpus number r s same ready in
    λ i. (eqb c.number number && ltb (first i) cpus) || more i

is_chosen_rehomed : (places : Places) (cpus : ℕ) (ready : List Candidate) (number : ℕ) → is_chosen_number cpus (map (rehomed places) ready) number ≡ is_chosen_number cpus ready number
is_chosen_rehomed places cpus ready number = chosen_rehomed places cpus number (rank (map (rehomed places) ready)) (rank ready) (λ c. rank_rehomed places ready (rehomed places c)) ready

kept_rehomed : (places : Places) (cpus : ℕ) (ready : List Candidate) (o : Option ℕ) → kept_if_chosen cpus (map (rehomed places) ready) o ≡ kept_if_chosen cpus ready o
kept_rehomed places cpus ready None = refl
kept_rehomed places cpus ready (Some n) = ap (λ b. cond b (Some n) None) (is_chosen_rehomed places cpus ready n)

find_rehomed : (places : Places) (at : ℕ) (r s : Candidate → ℕ) → ((c : Candidate) → r (rehomed places c) ≡ s c) → (ready : List Candidate)
    → find (λ c. eqb (r c) at) (map (rehomed places) ready) ≡ option_map (rehomed places) (find (λ c. eqb (s c) at) ready)
find_rehomed places at r s same [] = refl
find_rehomed places at r s same (c ∷ ready) =
    let more = find_rehomed places at r s same ready in
    ap (λ n. cond (eqb n at) (Some (rehomed places c)) (find (λ c. eqb (r c) at) (map (rehomed places) ready))) (same c)
    ∙ elim (eqb (s c) at) as (λ b. cond b (Some (rehomed places c)) (find (λ c. eqb (r c) at) (map (rehomed places) ready)) ≡ option_map (rehomed places) (cond b (Some c) (find (λ c. eqb (s c) at) ready))) [ true ↦ refl | false ↦ more ]

ranked_rehomed : (places : Places) (ready : List Candidate) (r : ℕ) → candidate_at_rank (map (rehomed places) ready) r ≡ option_map (rehomed places) (candidate_at_rank ready r)
ranked_rehomed places ready r = find_rehomed places r (rank (map (rehomed places) ready)) (rank ready) (λ c. rank_rehomed places ready (rehomed places c)) ready

-- the first that passes, by recursion
abbrev pub first_at : {X : Type 0} → (X → Bool) → List X → Option ℕ
first_at p [] = None
first_at p (x ∷ xs) = cond (p x) (Some 0) (option_map suc (first_at p xs))

cond_map : (b : Bool) (n : ℕ) → cond b (Some (suc n)) None ≡ option_map suc (cond b (Some n) None)
cond_map true n = refl
cond_map false n = refl

next : (a b : ℕ) → ltb (suc a) (suc b) ≡ ltb a b
next a b = elim (cases_lt a b) [ inl h ↦ lt-ltb (suc a) (suc b) (omega (arith, h)) ∙ sym (lt-ltb a b h) | inr h ↦ le-ltb (suc a) (suc b) (omega (arith, h)) ∙ sym (le-ltb a b h) ]

pub first_is : {X : Type 0} (p : X → Bool) (xs : List X) → position p xs ≡ first_at p xs
first_is p [] = refl
first_is p (x ∷ xs) =
    let k = position_or_len p xs in
    elim (p x) as (λ b. p x ≡ b → position p (x ∷ xs) ≡ cond b (Some 0) (option_map suc (first_at p xs))) [
      | true ↦ λ e. rw e (ap (λ b. cond b (Some 0) None) (lt-ltb 0 (length (x ∷ xs)) (omega arith)))
      | false ↦ λ e.
          let n : position_or_len p (x ∷ xs) ≡ suc k = rw e (omega arith) in
          let test : ltb (suc k) (length (x ∷ xs)) ≡ ltb k (length xs) = next k (length xs) in
          ap (λ j. cond (ltb j (length (x ∷ xs))) (Some j) None) n
          ∙ ap (λ b. cond b (Some (suc k)) None) test
          ∙ cond_map (ltb k (length xs)) k
          ∙ ap (option_map suc) (first_is p xs)
    ] refl

-- what runs there passes
pub first_passes : {X : Type 0} (p : X → Bool) (xs : List X) (i : ℕ) → first_at p xs ≡ Some i → (x : X) × (slice_get xs i ≡ Some x) × (p x ≡ true)
first_passes p [] i e = absurd cc
first_passes {X = X} p (x ∷ xs) i e =
    elim (p x) as (λ b. p x ≡ b → cond b (Some 0) (option_map suc (first_at p xs)) ≡ Some i → (y : X) × (slice_get (x ∷ xs) i ≡ Some y) × (p y ≡ true)) [
      | true ↦ λ is a. let same : 0 ≡ i = same_Some 0 i a in (x, subst (λ k. slice_get (x ∷ xs) k ≡ Some x) same refl, is)
      | false ↦ λ is a. following (λ k h. first_passes p xs k h) (first_at p xs) refl a
    ] refl e
  where
    following : ((k : ℕ) → first_at p xs ≡ Some k → (y : X) × (slice_get xs k ≡ Some y) × (p y ≡ true)) → (at : Option ℕ) → first_at p xs ≡ at → option_map suc at ≡ Some i → (y : X) × (slice_get (x ∷ xs) i ≡ Some y) × (p y ≡ true)
    following more None is a = absurd cc
    following more (Some k) is a =
        let same : suc k ≡ i = same_Some (suc k) i a in
        let there = more k is in
        (there.0, subst (λ n. slice_get (x ∷ xs) n ≡ Some there.0) same there.1, there.2)

-- where there is none, none passes
pub first_none : {X : Type 0} (p : X → Bool) (xs : List X) → first_at p xs ≡ None → list_any p xs ≡ false
first_none p [] e = refl
first_none p (x ∷ xs) e =
    elim (p x) as (λ b. cond b (Some 0) (option_map suc (first_at p xs)) ≡ None → (b || list_any p xs) ≡ false) [
      | true ↦ λ a. absurd cc
      | false ↦ λ a. following (λ h. first_none p xs h) (first_at p xs) refl a
    ] e
  where
    following : (first_at p xs ≡ None → list_any p xs ≡ false) → (at : Option ℕ) → first_at p xs ≡ at → option_map suc at ≡ None → list_any p xs ≡ false
    following more None is a = more is
    following more (Some k) is a = absurd cc

no_first : {X : Type 0} (p : X → Bool) (xs : List X) → list_any p xs ≡ false → first_at p xs ≡ None
no_first p [] e = refl
no_first p (x ∷ xs) e =
    let none = or_false (p x) (list_any p xs) e in
    ap (λ b. cond b (Some 0) (option_map suc (first_at p xs))) none.0 ∙ ap (option_map suc) (no_first p xs none.1)

-- ---- a CPU that is free

abbrev pub has_idle : Places → Bool
has_idle places = list_any (λ o. is_none o) places

none_is : (o : Option ℕ) → is_none o ≡ true → o ≡ None
none_is None e = refl
none_is (Some n) e = absurd cc

free_none : (places : Places) (cpu : ℕ) → has_idle places ≡ false → is_free (slice_get places cpu) ≡ false
free_none [] cpu e = refl
free_none (o ∷ places) zero e = (or_false (is_none o) (has_idle places) e).0
free_none (o ∷ places) (suc cpu) e = free_none places cpu (or_false (is_none o) (has_idle places) e).1

-- where none is free a task has no open charge
full_charge : (places : Places) (c : Candidate) → has_idle places ≡ false → cpu_for places c ≡ None
full_charge places c e = rw (free_none places c.home e) (first_is (λ o. is_none o) places ∙ no_first (λ o. is_none o) places e)

free_is : (at : Option (Option ℕ)) → is_free at ≡ true → at ≡ Some None
free_is None e = absurd cc
free_is (Some o) e = ap (λ x. Some x) (none_is o e)

-- an open charge is a CPU that is free
charge_free : (places : Places) (c : Candidate) (cpu : ℕ) → cpu_for places c ≡ Some cpu → slice_get places cpu ≡ Some None
charge_free places c cpu e =
    elim (is_free (slice_get places c.home)) as (λ b. is_free (slice_get places c.home) ≡ b → cond b (Some c.home) (position (λ o. is_none o) places) ≡ Some cpu → slice_get places cpu ≡ Some None) [
      | true ↦ λ is a. subst (λ k. slice_get places k ≡ Some None) (same_Some c.home cpu a) (free_is (slice_get places c.home) is)
      | false ↦ λ is a. let there = first_passes (λ o. is_none o) places cpu (sym (first_is (λ o. is_none o) places) ∙ a) in there.1 ∙ ap (λ x. Some x) (none_is there.0 there.2)
    ] refl e

-- without an open charge none is free
charge_full : (places : Places) (c : Candidate) → cpu_for places c ≡ None → has_idle places ≡ false
charge_full places c e =
    elim (is_free (slice_get places c.home)) as (λ b. cond b (Some c.home) (position (λ o. is_none o) places) ≡ None → has_idle places ≡ false) [
      | true ↦ λ a. absurd cc
      | false ↦ λ a. first_none (λ o. is_none o) places (sym (first_is (λ o. is_none o) places) ∙ a)
    ] e

-- ---- a task takes a free CPU

runs_set : (n m : ℕ) (places : Places) (cpu : ℕ) → slice_get places cpu ≡ Some None → is_on_cpu n places ≡ true → is_on_cpu n (set places cpu (Some m)) ≡ true
runs_set n m [] cpu free e = absurd cc
runs_set n m (o ∷ places) zero free e =
    let idle : o ≡ None = same_Some o None free in
    let rest : is_on_cpu n places ≡ true = sym (ap (λ x. is_task n x || is_on_cpu n places) idle) ∙ e in
    rw rest (or_true (eqb m n))
runs_set n m (o ∷ places) (suc cpu) free e =
    elim (is_task n o) as (λ b. (b || is_on_cpu n places) ≡ true → (b || is_on_cpu n (set places cpu (Some m))) ≡ true) [ true ↦ λ a. refl | false ↦ λ a. runs_set n m places cpu free a ] e

runs_new : (m : ℕ) (places : Places) (cpu : ℕ) → slice_get places cpu ≡ Some None → is_on_cpu m (set places cpu (Some m)) ≡ true
runs_new m [] cpu free = absurd cc
runs_new m (o ∷ places) zero free = ap (λ b. b || is_on_cpu m places) (eq-eqb m m refl)
runs_new m (o ∷ places) (suc cpu) free = rw (runs_new m places cpu free) (or_true (is_task m o))

full_set : (m : ℕ) (places : Places) (cpu : ℕ) → has_idle places ≡ false → has_idle (set places cpu (Some m)) ≡ false
full_set m [] cpu e = refl
full_set m (o ∷ places) zero e = (or_false (is_none o) (has_idle places) e).1
full_set m (o ∷ places) (suc cpu) e =
    let none = or_false (is_none o) (has_idle places) e in
    rw none.0 (full_set m places cpu none.1)

-- ---- what the placement keeps

-- each occupant stays, and each of the first ranks runs, or no CPU is free
pub record HaveTheirCharges (cpus : ℕ) (ready : List Candidate) (ranks : ℕ) (places : Places) : Type 0 where
  pub stay : All (λ o. kept_if_chosen cpus ready o ≡ o) places
  pub on_one : (r : ℕ) (c : Candidate) → r < ranks → candidate_at_rank ready r ≡ Some c → (is_on_cpu c.number places ≡ true) ⊎ (has_idle places ≡ false)

kept_again : (cpus : ℕ) (ready : List Candidate) (o : Option ℕ) → kept_if_chosen cpus ready (kept_if_chosen cpus ready o) ≡ kept_if_chosen cpus ready o
kept_again cpus ready None = refl
kept_again cpus ready (Some n) =
    elim (is_chosen_number cpus ready n) as (λ b. is_chosen_number cpus ready n ≡ b → kept_if_chosen cpus ready (cond b (Some n) None) ≡ cond b (Some n) None) [
      | true ↦ λ e. ap (λ b. cond b (Some n) None) e
      | false ↦ λ e. refl
    ] refl

-- the task of a rank is chosen
ranked_chosen : (cpus : ℕ) (ready : List Candidate) (r : ℕ) (c : Candidate) → r < cpus → candidate_at_rank ready r ≡ Some c → is_chosen_number cpus ready c.number ≡ true
ranked_chosen cpus ready r c h e =
    let at : rank ready c ≡ r = eqb-true (rank ready c) r (find_is (λ x. eqb (rank ready x) r) ready c e) in
    let named : eqb c.number c.number ≡ true = eq-eqb c.number c.number refl in
    let chosen : ltb (rank ready c) cpus ≡ true = lt-ltb (rank ready c) cpus (omega (arith, at, h)) in
    found_passes (λ x. eqb (rank ready x) r) (λ x. eqb x.number c.number && ltb (rank ready x) cpus) ready c e (rw (named, chosen) refl)

-- one rank more
seated_more : (cpus : ℕ) (ready : List Candidate) (r : ℕ) (places : Places) → r < cpus → HaveTheirCharges cpus ready r places → HaveTheirCharges cpus ready (suc r) (assigned_if places (candidate_at_rank ready r))
seated_more cpus ready r places h is = by_rank (candidate_at_rank ready r) refl
  where
    -- the ranks before, and this one
    both : (after : Places) → ((n : ℕ) → is_on_cpu n places ≡ true → is_on_cpu n after ≡ true) → (has_idle places ≡ false → has_idle after ≡ false)
        → ((c : Candidate) → candidate_at_rank ready r ≡ Some c → (is_on_cpu c.number after ≡ true) ⊎ (has_idle after ≡ false))
        → (q : ℕ) (c : Candidate) → q < suc r → candidate_at_rank ready q ≡ Some c → (is_on_cpu c.number after ≡ true) ⊎ (has_idle after ≡ false)
    both after runs_still full_still here q c less e =
        elim (cases_lt q r) [
          | inl before ↦ elim (is.on_one q c before e) [ inl a ↦ inl (runs_still c.number a) | inr b ↦ inr (full_still b) ]
          | inr following ↦ let same : q ≡ r = omega (arith, less, following) in here c (ap (candidate_at_rank ready) (sym same) ∙ e)
        ]

    take_charge : (c : Candidate) (open_charge : Option ℕ) → candidate_at_rank ready r ≡ Some c → cpu_for places c ≡ open_charge → HaveTheirCharges cpus ready (suc r) (put places c.number open_charge)
    take_charge c None e at = record {
      stay = is.stay;
      on_one = both places (λ n a. a) (λ a. a) (λ x f. inr (charge_full places c at));
    }
    take_charge c (Some cpu) e at =
        let free = charge_free places c cpu at in
        let chosen : kept_if_chosen cpus ready (Some c.number) ≡ Some c.number = ap (λ b. cond b (Some c.number) None) (ranked_chosen cpus ready r c h e) in
        record {
          stay = All-set (λ o. kept_if_chosen cpus ready o ≡ o) places cpu (Some c.number) chosen is.stay;
          on_one = both (set places cpu (Some c.number)) (λ n a. runs_set n c.number places cpu free a) (λ a. full_set c.number places cpu a)
              (λ x f. let same : c ≡ x = same_Some c x (sym e ∙ f) in inl (subst (λ (y : Candidate). is_on_cpu y.number (set places cpu (Some c.number)) ≡ true) same (runs_new c.number places cpu free)));
        }

    by_rank : (o : Option Candidate) → candidate_at_rank ready r ≡ o → HaveTheirCharges cpus ready (suc r) (assigned_if places o)
    by_rank None e = record {
      stay = is.stay;
      on_one = both places (λ n a. a) (λ a. a) (λ x f. let no : None ≡ Some x = sym e ∙ f in absurd cc);
    }
    by_rank (Some c) e =
        elim (is_on_cpu c.number places) as (λ b. is_on_cpu c.number places ≡ b → HaveTheirCharges cpus ready (suc r) (cond b places (put places c.number (cpu_for places c)))) [
          | true ↦ λ there. record {
            stay = is.stay;
            on_one = both places (λ n a. a) (λ a. a) (λ x f. let same : c ≡ x = same_Some c x (sym e ∙ f) in inl (subst (λ (y : Candidate). is_on_cpu y.number places ≡ true) same there));
          }
          | false ↦ λ there. take_charge c (cpu_for places c) e refl
        ] refl

seated_all : (cpus : ℕ) (ready : List Candidate) (before : Places) (r : ℕ) → r ≤ cpus → HaveTheirCharges cpus ready r (assigned_upto ready (map (kept_if_chosen cpus ready) before) r)
seated_all cpus ready before zero h = record {
  stay = All-map (λ o. kept_if_chosen cpus ready o ≡ o) (kept_if_chosen cpus ready) before (λ k d within. kept_again cpus ready (get_or before k d));
  on_one = λ r c less e. absurd (omega (arith, less));
}
seated_all cpus ready before (suc r) h = seated_more cpus ready r (assigned_upto ready (map (kept_if_chosen cpus ready) before) r) (omega (arith, h)) (seated_all cpus ready before r (omega (arith, h)))

-- ---- again

charge_again : (places others : Places) (c : Candidate) → (is_on_cpu c.number places ≡ true) ⊎ (has_idle places ≡ false) → assigned places (rehomed others c) ≡ places
charge_again places others c is =
    elim is [
      | inl there ↦ ap (λ b. cond b places (put places c.number (cpu_for places (rehomed others c)))) there
      | inr full ↦ ap (λ at. cond (is_on_cpu c.number places) places (put places c.number at)) (full_charge places (rehomed others c) full)
          ∙ elim (is_on_cpu c.number places) as (λ b. cond b places places ≡ places) [ true ↦ refl | false ↦ refl ]
    ]

seated_again : (cpus : ℕ) (ready : List Candidate) (places others : Places) → HaveTheirCharges cpus ready cpus places → (r : ℕ) → r ≤ cpus → assigned_upto (map (rehomed others) ready) places r ≡ places
seated_again cpus ready places others is zero h = refl
seated_again cpus ready places others is (suc r) h =
    ap (λ (ps : Places). assigned_if ps (candidate_at_rank (map (rehomed others) ready) r)) (seated_again cpus ready places others is r (omega (arith, h)))
    ∙ ap (assigned_if places) (ranked_rehomed others ready r)
    ∙ by_rank (candidate_at_rank ready r) refl
  where
    by_rank : (o : Option Candidate) → candidate_at_rank ready r ≡ o → assigned_if places (option_map (rehomed others) o) ≡ places
    by_rank None e = refl
    by_rank (Some c) e = charge_again places others c (is.on_one r c (omega (arith, h)) e)

-- a placement of the same candidates, wherever they belong, is as it was
pub stays : (cpus : ℕ) (ready : List Candidate) (before others : Places) → placed cpus (map (rehomed others) ready) (placed cpus ready before) ≡ placed cpus ready before
stays cpus ready before others =
    let places = placed cpus ready before in
    let is : HaveTheirCharges cpus ready cpus places = seated_all cpus ready before cpus (omega arith) in
    let same : map (kept_if_chosen cpus (map (rehomed others) ready)) places ≡ places =
    map_itself (kept_if_chosen cpus (map (rehomed others) ready)) places (λ k d within. kept_rehomed others cpus ready (get_or places k d) ∙ is.stay k d within) in
    ap (λ (ps : Places). assigned_upto (map (rehomed others) ready) ps cpus) same ∙ seated_again cpus ready places others is cpus (omega arith)
