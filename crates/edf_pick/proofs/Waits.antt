-- The choice, where those who stay on their CPU are known, and the movers among the others.
use Rattle.std.proofs.Common.{◌≡◌, ◌≢◌, ◌<◌, ◌≤◌, ◌+◌, ◌⊎◌, ℕ, zero, suc, Bool, true, false, cond, eqb, not, List, [], ◌∷◌, ◌++◌, length, get_or, set, map, take, Option, Some, None, refl, sym, subst, ap, ◌∙◌, arith, inl, inr, eq-eqb, append_assoc, append-nil, length-append}
use Rattle.std.proofs.Math.Seq.{take-append_seam}
use Rattle.std.specs.Prelude.{All, Contains, filter, is_none, position}
use Rattle.std.specs.List.{list_any}
use Rattle.std.specs.List.Sorted.{IsPermutation}
use Rattle.std.proofs.lemmas.Bool.{cases_Bool, cases_eq, ne_eqb}
use Rattle.std.proofs.lemmas.List.{take_all, take_more, map-append, map-set, get_or-set_same, get_or-set_other, get_or-take, get_or_default, length-map, length-set, length-take-le}
use Rattle.std.proofs.lemmas.List.Elements.{All-head, All-tail, All-weaker, All-append, All-contains, Contains-append_left, Contains-append_right, Contains-get_or, filter-append}
use Rattle.std.proofs.lemmas.List.Folds.{list_any_none}
use Rattle.std.proofs.lemmas.List.Sorted.{IsPermutation-refl, IsPermutation-sym, IsPermutation-trans, IsPermutation-cons, IsPermutation-to_front, length_permutation, IsPermutation-map, IsPermutation-append_left, Contains-permutation, list_any-IsPermutation}
use Rattle.std.proofs.lemmas.List.Sums.{fold-append}
use Rattle.std.proofs.lemmas.Option.{slice_get-get_or}
use Rattle.edf_pick.specs.declared.candidate.Candidate.{Candidate}
use Rattle.edf_pick.specs.Changes.{home_on, with_home}
use Rattle.edf_pick.specs.Choice.{is_before}
use Rattle.edf_pick.specs.Order.{IsRising, by_deadline}
use Rattle.edf_pick.specs.Places.{Places, AreSingle, is_task, is_on_cpu, is_free, cpu_for, put, assigned, placed}
use Rattle.edf_pick.specs.private.First.{kept_running, assigned_all}
use Rattle.edf_pick.specs.private.Ready.{all_held, candidate_number, running_places, without_home, AreOn, IsReady, AreAssigned}
use Rattle.edf_pick.proofs.CallerLemmas.{IsNumbered, numbered_first, numbered_rest, numbered_map, permuted, length_ordered, rising_ordered}
use Rattle.edf_pick.proofs.Held.{held_more, All_held, held_contains, held_where}
use Rattle.edf_pick.proofs.Occupants.{any_at, kept_all, assign_free, single_all, runs_here, runs_assigned, stays_assigned}
use Rattle.edf_pick.proofs.Picked.{picked}
use Rattle.edf_pick.proofs.Resting.{no_position, on_position}
use Rattle.edf_pick.proofs.Sorting.{KeepsPlace, contains_parts, numbered_left, numbered_same, ordered_filter, ordered_map, ordered_parted, ordered_rising, ordered_same}
use Rattle.edf_pick.proofs.OnCpu.{busy, free_inside, some_assign, runs_where}

-- ---- WHO STAYS, AS AN OCCUPANT

pub number_at : (stays : List (Option Candidate)) (cpu : ℕ) → get_or (running_places stays) cpu None ≡ candidate_number (get_or stays cpu None)
number_at [] cpu = refl
number_at (o ∷ stays) zero = refl
number_at (o ∷ stays) (suc cpu) = number_at stays cpu

pub stays_length : (stays : List (Option Candidate)) → length (running_places stays) ≡ length stays
stays_length stays = simp length-map

pub stays_where : (stays : List (Option Candidate)) (cpu n : ℕ) → get_or (running_places stays) cpu None ≡ Some n → (c : Candidate) × (get_or stays cpu None ≡ Some c) × (c.number ≡ n)
stays_where stays cpu n on = by_task (get_or stays cpu None) refl (sym (number_at stays cpu) ∙ on)
  where
    by_task : (o : Option Candidate) → get_or stays cpu None ≡ o → candidate_number o ≡ Some n → (c : Candidate) × (get_or stays cpu None ≡ Some c) × (c.number ≡ n)
    by_task None at e = absurd cc
    by_task (Some c) at e = let same : c.number ≡ n = cc in (c, at, same)

pub stays_single : (stays : List (Option Candidate)) (before : Places) → AreOn stays before → AreSingle before → AreSingle (running_places stays)
stays_single stays before on single a b n ea eb =
    let one = stays_where stays a n ea in
    let other = stays_where stays b n eb in
    single a b n ((on a one.0 one.1).1 ∙ ap (λ (k : ℕ). Some k) one.2) ((on b other.0 other.1).1 ∙ ap (λ (k : ℕ). Some k) other.2)

-- who ran nowhere does not stay
pub stays_absent : (stays : List (Option Candidate)) (before : Places) (n : ℕ) → AreOn stays before → is_on_cpu n before ≡ false → is_on_cpu n (running_places stays) ≡ false
stays_absent stays before n on absent =
    elim (cases_Bool (is_on_cpu n (running_places stays))) [
      | inl there ↦
          let w = runs_where n (running_places stays) there in
          let t = stays_where stays w.0 n w.1 in
          let was_on_cpu : is_on_cpu n before ≡ true = runs_here n before w.0 ((on w.0 t.0 t.1).1 ∙ ap (λ (k : ℕ). Some k) t.2) in
          absurd (let clash : true ≡ false = sym was_on_cpu ∙ absent in cc)
      | inr e ↦ e
    ]

pub stays_stand : (stays : List (Option Candidate)) → All (λ c. is_on_cpu c.number (running_places stays) ≡ true) (all_held stays)
stays_stand stays =
    All_held (λ c. is_on_cpu c.number (running_places stays) ≡ true) stays (λ cpu c at. runs_here c.number (running_places stays) cpu (number_at stays cpu ∙ ap candidate_number at))

-- ---- SOME OF A LIST

filter_none : (q : Candidate → Bool) (xs : List Candidate) → All (λ c. q c ≡ false) xs → filter q xs ≡ []
filter_none q [] none = refl
filter_none q (x ∷ xs) none =
    ap (λ (b : Bool). cond b (x ∷ filter q xs) (filter q xs)) (All-head (λ c. q c ≡ false) x xs none) ∙ filter_none q xs (All-tail (λ c. q c ≡ false) x xs none)

filter_all : (q : Candidate → Bool) (xs : List Candidate) → All (λ c. q c ≡ true) xs → filter q xs ≡ xs
filter_all q [] all = refl
filter_all q (x ∷ xs) all =
    ap (λ (b : Bool). cond b (x ∷ filter q xs) (filter q xs)) (All-head (λ c. q c ≡ true) x xs all) ∙ ap (λ (ys : List Candidate). x ∷ ys) (filter_all q xs (All-tail (λ c. q c ≡ true) x xs all))

-- no task that runs needs a seat
assigned_others : (q : Candidate → Bool) (xs : List Candidate) (p : Places) → All (λ c. q c ≡ false → is_on_cpu c.number p ≡ true) xs → assigned_all xs p ≡ assigned_all (filter q xs) p
assigned_others q [] p stay = refl
assigned_others q (c ∷ cs) p stay =
    let rest : All (λ b. q b ≡ false → is_on_cpu b.number p ≡ true) cs = λ k d h. stay (suc k) d (omega (arith, h)) in
    let others = filter q cs in
    elim (q c) as (λ b. q c ≡ b → assigned_all cs (assigned p c) ≡ assigned_all (cond b (c ∷ others) others) p) [
      | true ↦ λ e. assigned_others q cs (assigned p c) (λ k d h out. stays_assigned (get_or cs k d).number p c (rest k d h out))
      | false ↦ λ e. ap (λ (b : Bool). assigned_all cs (cond b p (put p c.number (cpu_for p c)))) (stay 0 c (omega arith) e) ∙ assigned_others q cs p rest
    ] refl

take_front : (cpus : ℕ) (xs ys : List Candidate) → length xs ≤ cpus → (ys ≡ []) ⊎ (length xs ≡ cpus) → take cpus (xs ++ ys) ≡ xs
take_front cpus xs ys few (inl none) = ap (λ (zs : List Candidate). take cpus (xs ++ zs)) none ∙ ap (λ (zs : List Candidate). take cpus zs) (append-nil xs) ∙ take_all cpus xs few
take_front cpus xs ys few (inr full) = ap (λ (k : ℕ). take k (xs ++ ys)) (sym full) ∙ take-append_seam xs ys

any_there : (p : Candidate → Bool) (xs : List Candidate) (c : Candidate) → Contains xs c → p c ≡ true → list_any p xs ≡ true
any_there p xs c there passes = any_at p xs there.0 c there.1 (ap p there.2 ∙ passes)

not_false : (b : Bool) → not b ≡ false → b ≡ true
not_false true e = refl
not_false false e = absurd cc

-- ---- THE PLACEMENT

-- (Where those run who wait is of no matter, and cpus need not be the number of places.)
module _ (cpus : ℕ) (stays : List (Option Candidate)) (movers ready_rest : List Candidate) (before : Places) (len : length stays ≡ length before) (numbered : IsNumbered (all_held stays ++ (movers ++ ready_rest)))
    (rising : IsRising movers) (rest : IsRising ready_rest) (on : AreOn stays before) (away : All (λ c. is_on_cpu c.number before ≡ false) movers) (single : AreSingle before) where
  abbrev first : List Candidate
  first = all_held stays ++ movers

  first_numbered : IsNumbered (first ++ ready_rest)
  first_numbered = subst (λ (xs : List Candidate). IsNumbered xs) (sym (append_assoc (all_held stays) movers ready_rest)) numbered

  abbrev needs : Candidate → Bool
  needs c = not (is_on_cpu c.number (running_places stays))

  movers_only : filter needs (by_deadline first) ≡ movers
  movers_only =
      let none : filter needs (all_held stays) ≡ [] = filter_none needs (all_held stays)
      (All-weaker (λ c. is_on_cpu c.number (running_places stays) ≡ true) (λ c. needs c ≡ false) (λ c e. ap (λ (b : Bool). not b) e) (all_held stays) (stays_stand stays)) in
      let all : filter needs movers ≡ movers = filter_all needs movers
      (All-weaker (λ c. is_on_cpu c.number before ≡ false) (λ c. needs c ≡ true) (λ c e. ap (λ (b : Bool). not b) (stays_absent stays before c.number on e)) movers away) in
      ordered_filter needs first (numbered_left first ready_rest first_numbered)
      ∙ ap (λ (xs : List Candidate). by_deadline xs) (filter-append needs (all_held stays) movers ∙ ap (λ (xs : List Candidate). xs ++ filter needs movers) none ∙ all)
      ∙ ordered_rising movers rising

  -- which task runs where nobody stays is not chosen
  nobody_else : (cpu n : ℕ) → get_or stays cpu None ≡ None → get_or before cpu None ≡ Some n → list_any (λ c. eqb c.number n) first ≡ false
  nobody_else cpu n none was_on_cpu =
      list_any_none (λ c. eqb c.number n) first
      (All-append (λ c. eqb c.number n ≡ false) (all_held stays) movers
      (All_held (λ c. eqb c.number n ≡ false) stays (λ a c at. ne_eqb c.number n (λ same.
      let here : a ≡ cpu = single a cpu n ((on a c at).1 ∙ ap (λ (k : ℕ). Some k) same) was_on_cpu in
      let clash : None ≡ Some c = sym none ∙ ap (λ (k : ℕ). get_or stays k None) (sym here) ∙ at in cc)))
      (All-weaker (λ c. is_on_cpu c.number before ≡ false) (λ c. eqb c.number n ≡ false) (λ c absent. ne_eqb c.number n (λ same.
      let clash : true ≡ false = sym (runs_here n before cpu was_on_cpu) ∙ ap (λ (k : ℕ). is_on_cpu k before) (sym same) ∙ absent in cc)) movers away))

  -- an occupant is kept exactly where a task stays
  kept_here : (cpu : ℕ) → get_or (running_places stays) cpu None ≡ kept_running (by_deadline first) (get_or before cpu None)
  kept_here cpu = number_at stays cpu ∙ by_task (get_or stays cpu None) refl
    where
      by_occupant : get_or stays cpu None ≡ None → (o : Option ℕ) → get_or before cpu None ≡ o → None ≡ kept_running (by_deadline first) o
      by_occupant none None was_on_cpu = refl
      by_occupant none (Some n) was_on_cpu =
          sym (ap (λ (b : Bool). cond b (Some n) None) (sym (list_any-IsPermutation (λ c. eqb c.number n) first (by_deadline first) (permuted first)) ∙ nobody_else cpu n none was_on_cpu))

      by_task : (o : Option Candidate) → get_or stays cpu None ≡ o → candidate_number o ≡ kept_running (by_deadline first) (get_or before cpu None)
      by_task None at = by_occupant at (get_or before cpu None) refl
      by_task (Some c) at =
          let there : list_any (λ b. eqb b.number c.number) (by_deadline first) ≡ true =
          sym (list_any-IsPermutation (λ b. eqb b.number c.number) first (by_deadline first) (permuted first))
          ∙ any_there (λ b. eqb b.number c.number) first c (Contains-append_left (all_held stays) movers c (held_contains stays cpu c at)) (eq-eqb c.number c.number refl) in
          sym (ap (λ (o : Option ℕ). kept_running (by_deadline first) o) (on cpu c at).1 ∙ ap (λ (b : Bool). cond b (Some c.number) None) there)

  pub placed_by_movers : length (all_held stays) + length movers ≤ cpus → (ready_rest ≡ []) ⊎ (length (all_held stays) + length movers ≡ cpus)
      → All (λ a. All (λ b. is_before a b ≡ true) ready_rest) (all_held stays ++ movers)
      → placed cpus (by_deadline (all_held stays ++ (movers ++ ready_rest))) before ≡ assigned_all movers (running_places stays)
  placed_by_movers few all apart =
      let queue = by_deadline (all_held stays ++ (movers ++ ready_rest)) in
      let chosen = by_deadline first in
      let many : length chosen ≡ length (all_held stays) + length movers = length_ordered first ∙ length-append (all_held stays) movers in
      let parts : queue ≡ chosen ++ ready_rest = ap (λ (xs : List Candidate). by_deadline xs) (sym (append_assoc (all_held stays) movers ready_rest)) ∙ ordered_parted first ready_rest first_numbered rest apart in
      let front : take cpus queue ≡ chosen = ap (λ (xs : List Candidate). take cpus xs) parts
      ∙ take_front cpus chosen ready_rest (omega (arith, many, few)) (elim all [ inl none ↦ inl none | inr full ↦ inr (many ∙ full) ]) in
      let same : length (running_places stays) ≡ length before = stays_length stays ∙ len in
      sym (picked cpus queue before (rising_ordered (all_held stays ++ (movers ++ ready_rest)) numbered))
      ∙ ap (λ (xs : List Candidate). assigned_all xs (map (kept_running xs) before)) front
      ∙ ap (λ (ps : Places). assigned_all chosen ps) (sym (kept_all (kept_running chosen) before (running_places stays) same kept_here))
      ∙ assigned_others needs chosen (running_places stays) (λ k d h e. not_false (is_on_cpu (get_or chosen k d).number (running_places stays)) e)
      ∙ ap (λ (xs : List Candidate). assigned_all xs (running_places stays)) movers_only

-- ---- WHERE THE MOVERS ARE AT HOME

keeps_place : (places : Places) → KeepsPlace (with_home places)
keeps_place places c =
    elim (position (is_task c.number) places) as (λ o. ((home_on c o).deadline ≡ c.deadline) × ((home_on c o).number ≡ c.number)) [ None ↦ (refl, refl) | Some cpu ↦ (refl, refl) ]

contains_map : (f : Candidate → Candidate) (xs : List Candidate) (c : Candidate) → Contains xs c → Contains (map f xs) (f c)
contains_map f [] c at = absurd (let h = at.1 in omega (arith, h))
contains_map f (x ∷ xs) c at =
    elim (contains_parts x xs c at) [
      | inl same ↦ (0, omega arith, ap f same)
      | inr later ↦ let rest = contains_map f xs c later in (suc rest.0, (let h = rest.1 in omega (arith, h)), rest.2)
    ]

contains_from_map : (f : Candidate → Candidate) (xs : List Candidate) (y : Candidate) → Contains (map f xs) y → (c : Candidate) × Contains xs c × (f c ≡ y)
contains_from_map f [] y at = absurd (let h = at.1 in omega (arith, h))
contains_from_map f (x ∷ xs) y at =
    elim (contains_parts (f x) (map f xs) y at) [
      | inl same ↦ (x, (0, omega arith, refl), same)
      | inr later ↦
          let rest = contains_from_map f xs y later in
          let there = rest.1 in
          (rest.0, (suc there.0, (let h = there.1 in omega (arith, h)), there.2), rest.2)
    ]

map_itself : (f : Candidate → Candidate) (xs : List Candidate) → All (λ c. f c ≡ c) xs → map f xs ≡ xs
map_itself f [] all = refl
map_itself f (x ∷ xs) all =
    ap (λ (c : Candidate). c ∷ map f xs) (All-head (λ c. f c ≡ c) x xs all) ∙ ap (λ (ys : List Candidate). x ∷ ys) (map_itself f xs (All-tail (λ c. f c ≡ c) x xs all))

map_through : (f g : Candidate → Candidate) (xs : List Candidate) → All (λ c. f c ≡ f (g c)) xs → map f xs ≡ map f (map g xs)
map_through f g [] all = refl
map_through f g (x ∷ xs) all =
    ap (λ (c : Candidate). c ∷ map f xs) (All-head (λ c. f c ≡ f (g c)) x xs all)
    ∙ ap (λ (ys : List Candidate). f (g x) ∷ ys) (map_through f g xs (All-tail (λ c. f c ≡ f (g c)) x xs all))

map_back : (f g : Candidate → Candidate) (xs : List Candidate) → All (λ c. f (g c) ≡ c) xs → map f (map g xs) ≡ xs
map_back f g [] all = refl
map_back f g (x ∷ xs) all =
    ap (λ (c : Candidate). c ∷ map f (map g xs)) (All-head (λ c. f (g c) ≡ c) x xs all)
    ∙ ap (λ (ys : List Candidate). x ∷ ys) (map_back f g xs (All-tail (λ c. f (g c) ≡ c) x xs all))

pub numbers_apart : (xs ys : List Candidate) (a b : Candidate) → IsNumbered (xs ++ ys) → Contains xs a → Contains ys b → a.number ≢ b.number
numbers_apart [] ys a b numbered ha hb = absurd (let h = ha.1 in omega (arith, h))
numbers_apart (x ∷ xs) ys a b numbered ha hb =
    elim (contains_parts x xs a ha) [
      | inl same ↦
          subst (λ c. c.number ≢ b.number) same
          (All-contains (λ d. x.number ≢ d.number) (xs ++ ys) b (numbered_first x (xs ++ ys) numbered) (Contains-append_right xs ys b hb))
      | inr later ↦ numbers_apart xs ys a b (numbered_rest x (xs ++ ys) numbered) later hb
    ]

-- The task that runs afterwards are exactly those of a list
module _ (after : Places) (after_stays : List (Option Candidate)) (xs ready_rest : List Candidate) (numbered : IsNumbered (xs ++ ready_rest)) (single : AreSingle after) (is : running_places after_stays ≡ after)
    (on : AreOn after_stays after) (same : IsPermutation (map without_home (all_held after_stays)) (map without_home xs)) where
  -- one of the list for each that stays
  from_held : (c : Candidate) → Contains (all_held after_stays) c → (x : Candidate) × Contains xs x × (without_home x ≡ without_home c)
  from_held c at = contains_from_map without_home xs (without_home c) (Contains-permutation (map without_home (all_held after_stays)) (map without_home xs) (without_home c) same (contains_map without_home (all_held after_stays) c at))

  -- one that stays for each of the list
  to_held : (x : Candidate) → Contains xs x → (c : Candidate) × Contains (all_held after_stays) c × (without_home c ≡ without_home x)
  to_held x at =
      contains_from_map without_home (all_held after_stays) (without_home x)
      (Contains-permutation (map without_home xs) (map without_home (all_held after_stays)) (without_home x) (IsPermutation-sym (map without_home (all_held after_stays)) (map without_home xs) same) (contains_map without_home xs x at))

  -- who waits runs nowhere
  pub waits_away : (c : Candidate) → Contains ready_rest c → is_on_cpu c.number after ≡ false
  waits_away c at =
      elim (cases_Bool (is_on_cpu c.number after)) [
        | inl there ↦
            let w = runs_where c.number after there in
            let t = stays_where after_stays w.0 c.number (ap (λ (ps : Places). get_or ps w.0 None) is ∙ w.1) in
            let x = from_held t.0 (held_contains after_stays w.0 t.0 t.1) in
            absurd (numbers_apart xs ready_rest x.0 c numbered x.1 at (ap (λ (d : Candidate). d.number) x.2 ∙ t.2))
        | inr absent ↦ absent
      ]

  waits_homed : map (with_home after) ready_rest ≡ ready_rest
  waits_homed = map_itself (with_home after) ready_rest (λ k d h.
      let c = get_or ready_rest k d in ap (home_on c) (no_position after c.number (waits_away c (Contains-get_or ready_rest k d h))))

  -- a task's home before is forgotten
  homed_bare : (c : Candidate) → Contains xs c → with_home after c ≡ with_home after (without_home c)
  homed_bare c at =
      let s = to_held c at in
      let w = held_where after_stays s.0 s.1 in
      let was_on_cpu : get_or after w.0 None ≡ Some c.number = (on w.0 s.0 w.1).1 ∙ ap (λ (d : Candidate). Some d.number) s.2 in
      let here : position (is_task c.number) after ≡ Some w.0 = on_position after w.0 c.number single was_on_cpu in
      ap (home_on c) here ∙ sym (ap (home_on (without_home c)) here)

  held_homed : All (λ c. with_home after (without_home c) ≡ c) (all_held after_stays)
  held_homed = All_held (λ c. with_home after (without_home c) ≡ c) after_stays (λ cpu c at.
      let was_on_cpu = on cpu c at in
      ap (home_on (without_home c)) (on_position after cpu c.number single was_on_cpu.1) ∙ ap (λ (k : ℕ). record c { home = k }) (sym was_on_cpu.0))

  held_same : IsPermutation (map (with_home after) xs) (all_held after_stays)
  held_same =
      let there : map (with_home after) (map without_home (all_held after_stays)) ≡ all_held after_stays = map_back (with_home after) without_home (all_held after_stays) held_homed in
      let through : map (with_home after) xs ≡ map (with_home after) (map without_home xs) = map_through (with_home after) without_home xs (λ k d h. homed_bare (get_or xs k d) (Contains-get_or xs k d h)) in
      IsPermutation-sym (all_held after_stays) (map (with_home after) xs)
      (subst (λ ys. IsPermutation ys (map (with_home after) xs)) there
      (subst (λ ys. IsPermutation (map (with_home after) (map without_home (all_held after_stays))) ys) (sym through)
      (IsPermutation-map (with_home after) (map without_home (all_held after_stays)) (map without_home xs) same)))

  homed_parts : map (with_home after) (xs ++ ready_rest) ≡ map (with_home after) xs ++ ready_rest
  homed_parts = map-append (with_home after) xs ready_rest ∙ ap (λ (ys : List Candidate). map (with_home after) xs ++ ys) waits_homed

  homed_numbered : IsNumbered (map (with_home after) xs ++ ready_rest)
  homed_numbered = subst (λ ys. IsNumbered ys) homed_parts (numbered_map (with_home after) (λ c. c.number) (λ c. (keeps_place after c).1) (xs ++ ready_rest) numbered)

  pub held_numbered : IsNumbered (all_held after_stays ++ ready_rest)
  held_numbered =
      numbered_same (map (with_home after) xs ++ ready_rest) (all_held after_stays ++ ready_rest) (IsPermutation-append_left ready_rest (map (with_home after) xs) (all_held after_stays) held_same) homed_numbered

  pub homed_held : map (with_home after) (by_deadline (xs ++ ready_rest)) ≡ by_deadline (all_held after_stays ++ ready_rest)
  homed_held =
      ordered_map (with_home after) (keeps_place after) (xs ++ ready_rest) ∙ ap (λ (ys : List Candidate). by_deadline ys) homed_parts
      ∙ ordered_same (map (with_home after) xs ++ ready_rest) (all_held after_stays ++ ready_rest) homed_numbered (IsPermutation-append_left ready_rest (map (with_home after) xs) (all_held after_stays) held_same)

-- (The other conditions of the placement are not needed.)
pub homed_by_movers : (stays : List (Option Candidate)) (movers ready_rest : List Candidate) (before : Places) (after_stays : List (Option Candidate)) → IsNumbered (all_held stays ++ (movers ++ ready_rest)) → AreOn stays before → AreSingle before
    → running_places after_stays ≡ assigned_all movers (running_places stays) → AreOn after_stays (assigned_all movers (running_places stays)) → IsPermutation (map without_home (all_held after_stays)) (map without_home (all_held stays ++ movers))
    → map (with_home (assigned_all movers (running_places stays))) (by_deadline (all_held stays ++ (movers ++ ready_rest))) ≡ by_deadline (all_held after_stays ++ ready_rest)
homed_by_movers stays movers ready_rest before after_stays numbered on single is after_on same =
    let after = assigned_all movers (running_places stays) in
    let parts = append_assoc (all_held stays) movers ready_rest in
    ap (λ (xs : List Candidate). map (with_home after) (by_deadline xs)) (sym parts)
    ∙ homed_held after after_stays (all_held stays ++ movers) ready_rest (subst (λ (xs : List Candidate). IsNumbered xs) (sym parts) numbered)
    (single_all movers (running_places stays) (stays_single stays before on single)) is after_on same

-- ---- ONE MOVER AFTER ANOTHER

pub running_put : (stays : List (Option Candidate)) (cpu : ℕ) (o : Option Candidate) → running_places (set stays cpu o) ≡ set (running_places stays) cpu (candidate_number o)
running_put stays cpu o = map-set candidate_number stays cpu o

-- nobody stays where no occupant does
pub stays_none : (stays : List (Option Candidate)) (cpu : ℕ) → get_or (running_places stays) cpu None ≡ None → get_or stays cpu None ≡ None
stays_none stays cpu none = by_task (get_or stays cpu None) (sym (number_at stays cpu) ∙ none)
  where
    by_task : (o : Option Candidate) → candidate_number o ≡ None → o ≡ None
    by_task None e = refl
    by_task (Some c) e = absurd cc

pub on_put : (stays : List (Option Candidate)) (places : Places) (cpu : ℕ) (c : Candidate) → cpu < length stays → cpu < length places → AreOn stays places
    → AreOn (set stays cpu (Some (record c { home = cpu }))) (set places cpu (Some c.number))
on_put stays places cpu c h l on a d at =
    let one : Candidate = record c { home = cpu } in
    elim (cases_eq a cpu) [
      | inl here ↦
          let read : Some one ≡ Some d =
          sym (get_or-set_same stays cpu (Some one) None h) ∙ ap (λ (k : ℕ). get_or (set stays cpu (Some one)) k None) (sym here) ∙ at in
          let same : one ≡ d = cc in (
            sym (ap (λ (x : Candidate). x.home) same) ∙ sym here,
            ap (λ (k : ℕ). get_or (set places cpu (Some c.number)) k None) here ∙ get_or-set_same places cpu (Some c.number) None l ∙ ap (λ (x : Candidate). Some x.number) same,
          )
      | inr apart ↦
          let was = on a d (sym (get_or-set_other stays cpu a (Some one) None apart) ∙ at) in
          (was.0, get_or-set_other places cpu a (Some c.number) None apart ∙ was.1)
    ]

-- a task that no longer stays
pub on_less : (stays : List (Option Candidate)) (places : Places) (cpu : ℕ) → AreOn stays places → AreOn (set stays cpu None) places
on_less stays places cpu on a d at = on a d (by_place (cases_eq a cpu))
  where
    gone : (xs : List (Option Candidate)) (k : ℕ) → get_or (set xs k None) k None ≡ None
    gone [] k = refl
    gone (x ∷ xs) zero = refl
    gone (x ∷ xs) (suc k) = gone xs k

    by_place : (a ≡ cpu) ⊎ (a ≢ cpu) → get_or stays a None ≡ Some d
    by_place (inl here) = absurd (let clash : None ≡ Some d = sym (gone stays cpu) ∙ ap (λ (k : ℕ). get_or (set stays cpu None) k None) (sym here) ∙ at in cc)
    by_place (inr apart) = sym (get_or-set_other stays cpu a None None apart) ∙ at

pub bare_put : (stays : List (Option Candidate)) (cpu : ℕ) (c : Candidate) (xs : List Candidate) → cpu < length stays → get_or stays cpu None ≡ None → IsPermutation (map without_home (all_held stays)) (map without_home xs)
    → IsPermutation (map without_home (all_held (set stays cpu (Some (record c { home = cpu }))))) (map without_home (xs ++ c ∷ []))
bare_put stays cpu c xs h none same =
    let one : Candidate = record c { home = cpu } in
    let more = map without_home (all_held (set stays cpu (Some one))) in
    let one_more : IsPermutation more (without_home c ∷ map without_home (all_held stays)) = IsPermutation-map without_home (all_held (set stays cpu (Some one))) (one ∷ all_held stays) (held_more stays cpu one h none) in
    let then : IsPermutation (without_home c ∷ map without_home (all_held stays)) (without_home c ∷ map without_home xs) = IsPermutation-cons (without_home c) (map without_home (all_held stays)) (map without_home xs) same in
    let last : IsPermutation (without_home c ∷ map without_home xs) (map without_home xs ++ without_home c ∷ []) =
    IsPermutation-sym (map without_home xs ++ without_home c ∷ []) (without_home c ∷ map without_home xs) (IsPermutation-to_front (map without_home xs) (without_home c)) in
    subst (λ ys. IsPermutation more ys) (sym (map-append without_home xs (c ∷ [])))
    (IsPermutation-trans more (without_home c ∷ map without_home (all_held stays)) (map without_home xs ++ without_home c ∷ []) one_more
    (IsPermutation-trans (without_home c ∷ map without_home (all_held stays)) (without_home c ∷ map without_home xs) (map without_home xs ++ without_home c ∷ []) then last))

-- as many run as stay
stays_busy : (stays : List (Option Candidate)) → busy (running_places stays) ≡ length (all_held stays)
stays_busy [] = refl
stays_busy (None ∷ stays) = let rest = stays_busy stays in omega (arith, rest)
stays_busy (Some c ∷ stays) = let rest = stays_busy stays in omega (arith, rest)

pub assign_found : (stays : List (Option Candidate)) (places : Places) (c : Candidate) → running_places stays ≡ places → length (all_held stays) < length stays → (cpu : ℕ) × (cpu_for places c ≡ Some cpu)
assign_found stays places c is few =
    let many = stays_busy stays in
    let all = stays_length stays in
    subst (λ ps. (cpu : ℕ) × (cpu_for ps c ≡ Some cpu)) is (some_assign (running_places stays) c (omega (arith, few, many, all)))

-- a seat is a CPU on which no task runs
pub assign_bare : (places : Places) (c : Candidate) (cpu : ℕ) → cpu_for places c ≡ Some cpu → (cpu < length places) × (get_or places cpu None ≡ None)
assign_bare places c cpu e =
    let free = assign_free places c cpu e in
    let h = free_inside places cpu free in
    (h, by_occupant (get_or places cpu None) (ap is_free (sym (slice_get-get_or places cpu None h)) ∙ free))
  where
    by_occupant : (o : Option ℕ) → is_none o ≡ true → o ≡ None
    by_occupant None t = refl
    by_occupant (Some n) t = absurd cc

-- THE LOOP
pub none_assigned : (stays : List (Option Candidate)) (before : Places) → AreOn stays before → AreAssigned stays [] stays (running_places stays)
none_assigned stays before on = record {
  len = refl;
  assigned = refl;
  running = refl;
  on = λ cpu c at. ((on cpu c at).0, number_at stays cpu ∙ ap candidate_number at);
  same = subst (λ xs. IsPermutation (map without_home (all_held stays)) (map without_home xs)) (sym (append-nil (all_held stays))) (IsPermutation-refl (map without_home (all_held stays)));
}

pub one_assigned : (stays : List (Option Candidate)) (movers : List Candidate) (now : List (Option Candidate)) (places : Places) (c : Candidate) (cpu : ℕ) → AreAssigned stays movers now places → is_on_cpu c.number places ≡ false → cpu_for places c ≡ Some cpu
    → AreAssigned stays (movers ++ c ∷ []) (set now cpu (Some (record c { home = cpu }))) (set places cpu (Some c.number))
one_assigned stays movers now places c cpu is absent assign =
    let one : Candidate = record c { home = cpu } in
    let bare_there = assign_bare places c cpu assign in
    let many : length places ≡ length now = ap (λ (ps : Places). length ps) (sym is.running) ∙ stays_length now in
    let inside : cpu < length now = (let h = bare_there.0 in omega (arith, h, many)) in
    let none : get_or now cpu None ≡ None = stays_none now cpu (ap (λ (ps : Places). get_or ps cpu None) is.running ∙ bare_there.1) in
    let put_there : assigned places c ≡ set places cpu (Some c.number) = ap (λ (b : Bool). cond b places (put places c.number (cpu_for places c))) absent ∙ ap (λ (o : Option ℕ). put places c.number o) assign in
    record {
      len = length-set now cpu (Some one) ∙ is.len;
      assigned = sym put_there ∙ ap (λ (ps : Places). assigned ps c) is.assigned ∙ sym (fold-append assigned (running_places stays) movers (c ∷ []));
      running = running_put now cpu (Some one) ∙ ap (λ (ps : Places). set ps cpu (Some c.number)) is.running;
      on = on_put now places cpu c inside bare_there.0 is.on;
      same = subst (λ xs. IsPermutation (map without_home (all_held (set now cpu (Some one)))) (map without_home xs)) (append_assoc (all_held stays) movers (c ∷ [])) (bare_put now cpu c (all_held stays ++ movers) inside none is.same);
    }

-- as long as there are fewer than CPUs
pub next_assign : (stays : List (Option Candidate)) (movers : List Candidate) (now : List (Option Candidate)) (places : Places) (c : Candidate) → AreAssigned stays movers now places → length (all_held stays) + length movers < length stays
    → (cpu : ℕ) × (cpu_for places c ≡ Some cpu)
next_assign stays movers now places c is few =
    let bare_many : length (map without_home (all_held stays ++ movers)) ≡ length (map without_home (all_held now)) = length_permutation (map without_home (all_held now)) (map without_home (all_held stays ++ movers)) is.same in
    let one : length (map without_home (all_held now)) ≡ length (all_held now) = simp length-map in
    let other : length (map without_home (all_held stays ++ movers)) ≡ length (all_held stays ++ movers) = simp length-map in
    let sum = length-append (all_held stays) movers in
    let len = is.len in
    assign_found now places c is.running (omega (arith, bare_many, one, other, sum, few, len))

still_away : (n : ℕ) (xs : List Candidate) (p : Places) → All (λ b. n ≢ b.number) xs → is_on_cpu n p ≡ false → is_on_cpu n (assigned_all xs p) ≡ false
still_away n [] p apart absent = absent
still_away n (x ∷ xs) p apart absent =
    still_away n xs (assigned p x) (All-tail (λ b. n ≢ b.number) x xs apart) (runs_assigned n p x (All-head (λ b. n ≢ b.number) x xs apart) ∙ absent)

-- a mover runs nowhere until it is seated
pub next_away : (stays : List (Option Candidate)) (movers : List Candidate) (before : Places) (i : ℕ) (d : Candidate) (now : List (Option Candidate)) (places : Places) → IsNumbered movers → AreOn stays before
    → All (λ c. is_on_cpu c.number before ≡ false) movers → i < length movers → AreAssigned stays (take i movers) now places → is_on_cpu (get_or movers i d).number places ≡ false
next_away stays movers before i d now places numbered on away h is =
    let n = (get_or movers i d).number in
    let apart : All (λ b. n ≢ b.number) (take i movers) = λ k e l same.
    let many = length-take-le i movers (omega (arith, h)) in
    let less : k < i = omega (arith, l, many) in
    numbered k i e less h (ap (λ (c : Candidate). c.number) (sym (get_or-take i movers k e less)) ∙ sym same ∙ ap (λ (c : Candidate). c.number) (get_or_default movers i d e h)) in
    ap (λ (ps : Places). is_on_cpu n ps) is.assigned ∙ still_away n (take i movers) (running_places stays) apart (stays_absent stays before n on (away i d h))

pub more_assigned : (stays : List (Option Candidate)) (movers : List Candidate) (i : ℕ) (d : Candidate) (now : List (Option Candidate)) (places : Places) (cpu : ℕ) → i < length movers → AreAssigned stays (take i movers) now places
    → is_on_cpu (get_or movers i d).number places ≡ false → cpu_for places (get_or movers i d) ≡ Some cpu
    → AreAssigned stays (take (i + 1) movers) (set now cpu (Some (record (get_or movers i d) { home = cpu }))) (set places cpu (Some (get_or movers i d).number))
more_assigned stays movers i d now places cpu h is absent assign =
    let c = get_or movers i d in
    subst (λ xs. AreAssigned stays xs (set now cpu (Some (record c { home = cpu }))) (set places cpu (Some c.number))) (sym (take_more movers i d h))
    (one_assigned stays (take i movers) now places c cpu is absent assign)

-- once all are seated
pub assigned_homed : (stays : List (Option Candidate)) (movers ready_rest : List Candidate) (before : Places) (now : List (Option Candidate)) (places : Places) → IsNumbered (all_held stays ++ (movers ++ ready_rest)) → AreOn stays before
    → AreSingle before → AreAssigned stays movers now places → map (with_home places) (by_deadline (all_held stays ++ (movers ++ ready_rest))) ≡ by_deadline (all_held now ++ ready_rest)
assigned_homed stays movers ready_rest before now places numbered on single is =
    ap (λ (ps : Places). map (with_home ps) (by_deadline (all_held stays ++ (movers ++ ready_rest)))) is.assigned
    ∙ homed_by_movers stays movers ready_rest before now numbered on single (is.running ∙ is.assigned) (subst (λ (ps : Places). AreOn now ps) is.assigned is.on) is.same

pub assigned_ready : (stays : List (Option Candidate)) (movers ready_rest : List Candidate) (before : Places) (now : List (Option Candidate)) (places : Places) → IsNumbered (all_held stays ++ (movers ++ ready_rest)) → AreOn stays before
    → AreSingle before → AreAssigned stays movers now places → IsReady now ready_rest places
assigned_ready stays movers ready_rest before now places numbered on single is =
    let first = all_held stays ++ movers in
    let all = subst (λ (xs : List Candidate). IsNumbered xs) (sym (append_assoc (all_held stays) movers ready_rest)) numbered in
    let alone : AreSingle places = subst (λ (ps : Places). AreSingle ps) (sym is.assigned) (single_all movers (running_places stays) (stays_single stays before on single)) in
    record {
      len = sym (stays_length now) ∙ ap (λ (ps : Places). length ps) is.running;
      numbered = held_numbered places now first ready_rest all alone is.running is.on is.same;
      on = is.on;
      homed = λ k d h there.
          let away = waits_away places now first ready_rest all alone is.running is.on is.same (get_or ready_rest k d) (Contains-get_or ready_rest k d h) in
          let clash : true ≡ false = sym there ∙ away in absurd cc;
    }
