-- The occupants of the CPUs while tasks leave and others are put on idle CPUs.
use Rattle.std.proofs.Common.{◌≡◌, ◌≢◌, ◌<◌, ℕ, zero, suc, Bool, true, false, cond, ltb, ◌||◌, ◌⊎◌, Option, Some, None, List, [], ◌∷◌, length, map, get_or, set, refl, sym, ap, ◌∙◌, subst, arith, inl, inr, eq-eqb, eqb-true}
use Rattle.std.specs.Prelude.{is_none, position, slice_get}
use Rattle.std.specs.List.{list_any, position_or_len}
use Rattle.std.proofs.lemmas.Bool.{ne_eqb, ltb-true, lt-ltb, le-ltb, or_left, or_right}
use Rattle.std.proofs.lemmas.List.Sums.{passes_at_first, position_or_len_is}
use Rattle.std.proofs.lemmas.Option.{slice_get-get_or}
use Rattle.edf_pick.specs.declared.candidate.Candidate.{Candidate}
use Rattle.edf_pick.specs.Places.{Places, count_occupant, AreSingle, is_task, is_on_cpu, is_free, cpu_for, put, assigned}
use Rattle.edf_pick.specs.private.First.{assigned_all}

-- what is read past the end
abbrev pub nobody : Candidate
nobody = record { deadline = 0; number = 0; home = 0 }

-- FREE CPUS
bare_is : (o : Option ℕ) → count_occupant o ≡ 0 → is_none o ≡ true
bare_is None e = refl
bare_is (Some n) e = absurd (omega arith)

taken_is : (o : Option ℕ) → count_occupant o ≡ 1 → is_none o ≡ false
taken_is None e = absurd (omega arith)
taken_is (Some n) e = refl

pub lowest_at : (places : Places) (cpu : ℕ) → cpu < length places → count_occupant (get_or places cpu None) ≡ 0 → ((k : ℕ) → k < cpu → count_occupant (get_or places k None) ≡ 1) → position (λ o. is_none o) places ≡ Some cpu
lowest_at places cpu h bare below =
    let k : position_or_len (λ (o : Option ℕ). is_none o) places ≡ cpu = position_or_len_is (λ (o : Option ℕ). is_none o) places cpu None (omega arith) (λ k l. taken_is (get_or places k None) (below k l)) (λ _. bare_is (get_or places cpu None) bare) in
    ap (λ (j : ℕ). cond (ltb j (length places)) (Some j) None) k ∙ ap (λ (b : Bool). cond b (Some cpu) None) (lt-ltb cpu (length places) h)

pub lowest_none : (places : Places) → ((k : ℕ) → k < length places → count_occupant (get_or places k None) ≡ 1) → position (λ o. is_none o) places ≡ None
lowest_none places below =
    let k : position_or_len (λ (o : Option ℕ). is_none o) places ≡ length places = position_or_len_is (λ (o : Option ℕ). is_none o) places (length places) None (omega arith) (λ k l. taken_is (get_or places k None) (below k l)) (λ l. absurd (omega arith)) in
    ap (λ (j : ℕ). cond (ltb j (length places)) (Some j) None) k ∙ ap (λ (b : Bool). cond b (Some (length places)) None) (le-ltb (length places) (length places) (omega arith))

some_below : (b : Bool) (k cpu : ℕ) → cond b (Some k) None ≡ Some cpu → (b ≡ true) × (k ≡ cpu)
some_below true k cpu e = (refl, cc)
some_below false k cpu e = absurd cc

free_position : (places : Places) (cpu : ℕ) → position (λ o. is_none o) places ≡ Some cpu → is_free (slice_get places cpu) ≡ true
free_position places cpu e =
    let k = position_or_len (λ (o : Option ℕ). is_none o) places in
    let s = some_below (ltb k (length places)) k cpu e in
    let h : k < length places = ltb-true k (length places) s.0 in
    let free : is_none (get_or places k None) ≡ true = passes_at_first (λ (o : Option ℕ). is_none o) places None h in
    subst (λ i. is_free (slice_get places i) ≡ true) s.1 (ap is_free (slice_get-get_or places k None h) ∙ free)

-- a task is seated where no task runs
pub assign_free : (places : Places) (c : Candidate) (cpu : ℕ) → cpu_for places c ≡ Some cpu → is_free (slice_get places cpu) ≡ true
assign_free places c cpu e = by_home (is_free (slice_get places c.home)) refl e
  where
    by_home : (b : Bool) → is_free (slice_get places c.home) ≡ b → cond b (Some c.home) (position (λ o. is_none o) places) ≡ Some cpu → is_free (slice_get places cpu) ≡ true
    by_home true h e = let same : c.home ≡ cpu = cc in subst (λ i. is_free (slice_get places i) ≡ true) same h
    by_home false h e = free_position places cpu e

-- the task that runs is not unseated
stays_put : (n m : ℕ) (places : Places) (cpu : ℕ) → is_free (slice_get places cpu) ≡ true → is_on_cpu n places ≡ true → is_on_cpu n (set places cpu (Some m)) ≡ true
stays_put n m [] cpu free h = h
stays_put n m (None ∷ places) zero free h = or_right (is_task n (Some m)) (is_on_cpu n places) h
stays_put n m (Some k ∷ places) zero free h = absurd cc
stays_put n m (o ∷ places) (suc cpu) free h =
    elim (is_task n o) as (λ b. (b || is_on_cpu n places) ≡ true → (b || is_on_cpu n (set places cpu (Some m))) ≡ true) [
      | true ↦ λ e. refl
      | false ↦ λ e. stays_put n m places cpu free e
    ] h

pub stays_assigned : (n : ℕ) (places : Places) (c : Candidate) → is_on_cpu n places ≡ true → is_on_cpu n (assigned places c) ≡ true
stays_assigned n places c h =
    elim (is_on_cpu c.number places) as (λ b. is_on_cpu n (cond b places (put places c.number (cpu_for places c))) ≡ true) [
      | true ↦ h
      | false ↦ by_assign (cpu_for places c) refl
    ]
  where
    by_assign : (o : Option ℕ) → cpu_for places c ≡ o → is_on_cpu n (put places c.number o) ≡ true
    by_assign None e = h
    by_assign (Some cpu) e = stays_put n c.number places cpu (assign_free places c cpu e) h

pub any_at : (p : Candidate → Bool) (xs : List Candidate) (k : ℕ) (d : Candidate) → k < length xs → p (get_or xs k d) ≡ true → list_any p xs ≡ true
any_at p [] k d h e = absurd (omega arith)
any_at p (x ∷ xs) zero d h e = or_left (p x) (list_any p xs) e
any_at p (x ∷ xs) (suc k) d h e = or_right (p x) (list_any p xs) (any_at p xs k d (omega arith) e)

-- each occupant by itself
pub kept_all : (f : Option ℕ → Option ℕ) (old new : Places) → length new ≡ length old → ((cpu : ℕ) → get_or new cpu None ≡ f (get_or old cpu None)) → new ≡ map f old
kept_all f [] [] len same = refl
kept_all f [] (x ∷ new) len same = absurd (omega arith)
kept_all f (o ∷ old) [] len same = absurd (omega arith)
kept_all f (o ∷ old) (x ∷ new) len same =
    ap (λ (y : Option ℕ). y ∷ new) (same 0) ∙ ap (λ (ys : Places). f o ∷ ys) (kept_all f old new (omega arith) (λ cpu. same (suc cpu)))

pub task_is : (n : ℕ) (o : Option ℕ) → is_task n o ≡ true → o ≡ Some n
task_is n None at = absurd cc
task_is n (Some k) at = ap (λ (j : ℕ). Some j) (eqb-true k n at)

-- the task that runs somewhere runs on one of the CPUs
pub occupied : (places : Places) (cpu n : ℕ) → get_or places cpu None ≡ Some n → cpu < length places
occupied [] cpu n on = absurd cc
occupied (o ∷ places) zero n on = omega arith
occupied (o ∷ places) (suc cpu) n on = omega (arith, occupied places cpu n on)

pub runs_here : (n : ℕ) (places : Places) (cpu : ℕ) → get_or places cpu None ≡ Some n → is_on_cpu n places ≡ true
runs_here n [] cpu at = absurd cc
runs_here n (o ∷ places) zero at = or_left (is_task n o) (is_on_cpu n places) (ap (λ (x : Option ℕ). is_task n x) at ∙ eq-eqb n n refl)
runs_here n (o ∷ places) (suc cpu) at = or_right (is_task n o) (is_on_cpu n places) (runs_here n places cpu at)

-- No task runs TWICE the task that runs on a CPU once a task is put on one
pub put_at : (places : Places) (cpu m a n : ℕ) → get_or (set places cpu (Some m)) a None ≡ Some n → ((a ≡ cpu) × (m ≡ n)) ⊎ (get_or places a None ≡ Some n)
put_at [] cpu m a n e = inr e
put_at (o ∷ places) zero m zero n e = inl (refl, cc)
put_at (o ∷ places) zero m (suc a) n e = inr e
put_at (o ∷ places) (suc cpu) m zero n e = inr e
put_at (o ∷ places) (suc cpu) m (suc a) n e =
    elim (put_at places cpu m a n e) [
      | inl h ↦ inl (ap (λ (k : ℕ). suc k) h.0, h.1)
      | inr h ↦ inr h
    ]

pub single_put : (places : Places) (cpu m : ℕ) → AreSingle places → is_on_cpu m places ≡ false → AreSingle (set places cpu (Some m))
single_put places cpu m single absent a b n ea eb =
    elim (put_at places cpu m a n ea) [
      | inl ha ↦ elim (put_at places cpu m b n eb) [
        | inl hb ↦ ha.0 ∙ sym hb.0
        | inr hb ↦ let there : is_on_cpu m places ≡ true = runs_here m places b (hb ∙ ap (λ (k : ℕ). Some k) (sym ha.1)) in absurd cc
      ]
      | inr ha ↦ elim (put_at places cpu m b n eb) [
        | inl hb ↦ let there : is_on_cpu m places ≡ true = runs_here m places a (ha ∙ ap (λ (k : ℕ). Some k) (sym hb.1)) in absurd cc
        | inr hb ↦ single a b n ha hb
      ]
    ]

pub single_assigned : (places : Places) (c : Candidate) → AreSingle places → AreSingle (assigned places c)
single_assigned places c single =
    elim (is_on_cpu c.number places) as (λ b. is_on_cpu c.number places ≡ b → AreSingle (cond b places (put places c.number (cpu_for places c)))) [
      | true ↦ λ e. single
      | false ↦ λ e. by_assign (cpu_for places c) e
    ] refl
  where
    by_assign : (o : Option ℕ) → is_on_cpu c.number places ≡ false → AreSingle (put places c.number o)
    by_assign None e = single
    by_assign (Some cpu) e = single_put places cpu c.number single e

pub single_all : (chosen : List Candidate) (places : Places) → AreSingle places → AreSingle (assigned_all chosen places)
single_all [] places single = single
single_all (c ∷ chosen) places single = single_all chosen (assigned places c) (single_assigned places c single)

-- WHO STAYS WHERE the task that runs on a CPU is not moved by the seating of others
put_stays : (places : Places) (cpu at m n : ℕ) → is_free (slice_get places at) ≡ true → get_or places cpu None ≡ Some n → get_or (set places at (Some m)) cpu None ≡ Some n
put_stays [] cpu at m n free on = on
put_stays (None ∷ places) zero zero m n free on = absurd cc
put_stays (Some k ∷ places) cpu zero m n free on = absurd cc
put_stays (o ∷ places) zero (suc at) m n free on = on
put_stays (None ∷ places) (suc cpu) zero m n free on = on
put_stays (o ∷ places) (suc cpu) (suc at) m n free on = put_stays places cpu at m n free on

assigned_stays : (places : Places) (c : Candidate) (cpu n : ℕ) → get_or places cpu None ≡ Some n → get_or (assigned places c) cpu None ≡ Some n
assigned_stays places c cpu n on =
    elim (is_on_cpu c.number places) as (λ b. get_or (cond b places (put places c.number (cpu_for places c))) cpu None ≡ Some n) [
      | true ↦ on
      | false ↦ by_assign (cpu_for places c) refl
    ]
  where
    by_assign : (o : Option ℕ) → cpu_for places c ≡ o → get_or (put places c.number o) cpu None ≡ Some n
    by_assign None e = on
    by_assign (Some at) e = put_stays places cpu at c.number n (assign_free places c at e) on

pub all_stay : (chosen : List Candidate) (places : Places) (cpu n : ℕ) → get_or places cpu None ≡ Some n → get_or (assigned_all chosen places) cpu None ≡ Some n
all_stay [] places cpu n on = on
all_stay (c ∷ chosen) places cpu n on = all_stay chosen (assigned places c) cpu n (assigned_stays places c cpu n on)

-- THE OTHERS Run WHERE THEY Ran
runs_put : (n m : ℕ) (places : Places) (cpu : ℕ) → n ≢ m → is_free (slice_get places cpu) ≡ true → is_on_cpu n (set places cpu (Some m)) ≡ is_on_cpu n places
runs_put n m [] cpu other free = refl
runs_put n m (None ∷ places) zero other free = ap (λ (b : Bool). b || is_on_cpu n places) (ne_eqb m n (λ e. other (sym e)))
runs_put n m (Some k ∷ places) zero other free = absurd cc
runs_put n m (o ∷ places) (suc cpu) other free = ap (λ (b : Bool). is_task n o || b) (runs_put n m places cpu other free)

pub runs_assigned : (n : ℕ) (places : Places) (c : Candidate) → n ≢ c.number → is_on_cpu n (assigned places c) ≡ is_on_cpu n places
runs_assigned n places c other =
    elim (is_on_cpu c.number places) as (λ b. is_on_cpu n (cond b places (put places c.number (cpu_for places c))) ≡ is_on_cpu n places) [
      | true ↦ refl
      | false ↦ by_assign (cpu_for places c) refl
    ]
  where
    by_assign : (o : Option ℕ) → cpu_for places c ≡ o → is_on_cpu n (put places c.number o) ≡ is_on_cpu n places
    by_assign None e = refl
    by_assign (Some cpu) e = runs_put n c.number places cpu other (assign_free places c cpu e)
