-- Which task runs where after the placement.
use Rattle.std.proofs.Common.{◌≡◌, ℕ, zero, suc, Bool, true, false, cond, eqb, ◌||◌, ◌&&◌, Option, Some, None, List, [], ◌∷◌, length, map, set, refl, sym, ap, ◌∙◌, arith, inl, inr, eq-eqb}
use Rattle.std.specs.Prelude.{find, ◌⊎◌}
use Rattle.std.specs.List.{list_any}
use Rattle.std.proofs.lemmas.Bool.{cases_lt}
use Rattle.std.proofs.lemmas.List.{get_or-map, length-map, get_or_past, length-set, get_or-set_other, get_or-set_same}
use Rattle.std.proofs.lemmas.Option.{same_Some}
use Rattle.edf_pick.specs.declared.candidate.Candidate.{Candidate}
use Rattle.edf_pick.specs.Choice.{rank, is_chosen, candidate_at_rank}
use Rattle.edf_pick.specs.Places.{Places, is_task, is_on_cpu, is_chosen_number, kept_if_chosen, cpu_for, put, assigned, assigned_if, assigned_upto, placed}
use Rattle.domain_run.specs.Sound.{occupant, HasNoTaskTwice}

-- a number among the candidates
abbrev pub is_candidate : List Candidate → ℕ → Bool
is_candidate ready n = list_any (λ c. eqb c.number n) ready

-- each occupant is a candidate
pub record AreCandidates (ready : List Candidate) (places : Places) : Type 0 where
  pub each : (cpu n : ℕ) → occupant places cpu ≡ Some n → is_candidate ready n ≡ true

or_true : (b : Bool) → (b || true) ≡ true
or_true true = refl
or_true false = refl

-- KEPT
list_any_weaker : {X : Type 0} (p q : X → Bool) → ((x : X) → p x ≡ true → q x ≡ true) → (xs : List X) → list_any p xs ≡ true → list_any q xs ≡ true
list_any_weaker p q weaker [] h = h
list_any_weaker p q weaker (x ∷ xs) h =
    elim (p x) as (λ b. p x ≡ b → (b || list_any p xs) ≡ true → (q x || list_any q xs) ≡ true) [
      | true ↦ λ e a. rw (weaker x e) refl
      | false ↦ λ e a. let rest = list_any_weaker p q weaker xs a in rw rest (or_true (q x))
    ] refl h

and_left : (a b : Bool) → (a && b) ≡ true → a ≡ true
and_left true b e = refl
and_left false b e = e

kept_some : (b : Bool) (m n : ℕ) → cond b (Some m) None ≡ Some n → (b ≡ true) × (m ≡ n)
kept_some true m n e = (refl, same_Some m n e)
kept_some false m n e = absurd cc

kept_number : (cpus : ℕ) (ready : List Candidate) (o : Option ℕ) (n : ℕ) → kept_if_chosen cpus ready o ≡ Some n → (o ≡ Some n) × (is_chosen_number cpus ready n ≡ true)
kept_number cpus ready None n e = absurd cc
kept_number cpus ready (Some m) n e =
    let k = kept_some (is_chosen_number cpus ready m) m n e in
    (ap (λ x. Some x) k.1, ap (is_chosen_number cpus ready) (sym k.1) ∙ k.0)

kept_at : (cpus : ℕ) (ready : List Candidate) (places : Places) (cpu : ℕ) → occupant (map (kept_if_chosen cpus ready) places) cpu ≡ kept_if_chosen cpus ready (occupant places cpu)
kept_at cpus ready places cpu =
    elim (cases_lt cpu (length places)) [
      | inl h ↦ get_or-map (kept_if_chosen cpus ready) places cpu None None h
      | inr h ↦ rw (get_or_past (map (kept_if_chosen cpus ready) places) cpu None (let e : length (map (kept_if_chosen cpus ready) places) ≡ length places = simp length-map in omega arith), get_or_past places cpu None h) refl
    ]

pub kept_candidates : (cpus : ℕ) (ready : List Candidate) (places : Places) → AreCandidates ready (map (kept_if_chosen cpus ready) places)
kept_candidates cpus ready places = record {
  each = λ cpu n e.
      let k = kept_number cpus ready (occupant places cpu) n (sym (kept_at cpus ready places cpu) ∙ e) in
      list_any_weaker (λ c. eqb c.number n && is_chosen cpus ready c) (λ c. eqb c.number n) (λ c h. and_left _ _ h) ready k.1;
}

pub kept_apart : (cpus : ℕ) (ready : List Candidate) (places : Places) → HasNoTaskTwice places → HasNoTaskTwice (map (kept_if_chosen cpus ready) places)
kept_apart cpus ready places apart = record {
  once = λ i j n a b.
      apart.once i j n (kept_number cpus ready (occupant places i) n (sym (kept_at cpus ready places i) ∙ a)).0 (kept_number cpus ready (occupant places j) n (sym (kept_at cpus ready places j) ∙ b)).0;
}

-- SEATED
or_false : (a b : Bool) → (a || b) ≡ false → (a ≡ false) × (b ≡ false)
or_false true b e = absurd cc
or_false false b e = (refl, e)

not_there : (number : ℕ) (places : Places) → is_on_cpu number places ≡ false → (cpu : ℕ) → occupant places cpu ≡ Some number → ⊥
not_there number [] e cpu h = let no : None ≡ Some number = h in absurd cc
not_there number (o ∷ places) e zero h =
    let here : is_task number o ≡ true = ap (is_task number) h ∙ eq-eqb number number refl in
    let no : true ≡ false = sym here ∙ (or_false (is_task number o) (is_on_cpu number places) e).0 in absurd cc
not_there number (o ∷ places) e (suc cpu) h = not_there number places (or_false (is_task number o) (is_on_cpu number places) e).1 cpu h

set_other : (places : Places) (cpu i n number : ℕ) → occupant (set places cpu (Some number)) i ≡ Some n → ((i ≡ cpu) × (n ≡ number)) ⊎ (occupant places i ≡ Some n)
set_other places cpu i n number h =
    elim (cases_lt i cpu) [
      | inl less ↦ inr (sym (get_or-set_other places cpu i (Some number) None (λ e. absurd (omega arith))) ∙ h)
      | inr at_least ↦ elim (cases_lt cpu i) [
        | inl more ↦ inr (sym (get_or-set_other places cpu i (Some number) None (λ e. absurd (omega arith))) ∙ h)
        | inr at_most ↦
            let same : i ≡ cpu = omega arith in
            let h2 : occupant (set places cpu (Some number)) cpu ≡ Some n = ap (occupant (set places cpu (Some number))) (sym same) ∙ h in
            elim (cases_lt cpu (length places)) [
              | inl within ↦ inl (same, same_Some n number (sym h2 ∙ get_or-set_same places cpu (Some number) None within))
              | inr past ↦
                  let e : length (set places cpu (Some number)) ≡ length places = length-set places cpu (Some number) in
                  let no : None ≡ Some n = sym (get_or_past (set places cpu (Some number)) cpu None (omega arith)) ∙ h2 in absurd cc
            ]
      ]
    ]

-- a task that runs nowhere may be put anywhere
put_apart : (places : Places) (number : ℕ) (cpu : Option ℕ) → is_on_cpu number places ≡ false → HasNoTaskTwice places → HasNoTaskTwice (put places number cpu)
put_apart places number None free apart = apart
put_apart places number (Some cpu) free apart = record {
  once = λ i j n a b.
      elim (set_other places cpu i n number a) [
        | inl p ↦ elim (set_other places cpu j n number b) [
          | inl q ↦ p.0 ∙ sym q.0
          | inr q ↦ absurd (not_there number places free j (q ∙ ap (λ x. Some x) p.1))
        ]
        | inr p ↦ elim (set_other places cpu j n number b) [
          | inl q ↦ absurd (not_there number places free i (p ∙ ap (λ x. Some x) q.1))
          | inr q ↦ apart.once i j n p q
        ]
      ];
}

put_candidates : (ready : List Candidate) (places : Places) (number : ℕ) (cpu : Option ℕ) → is_candidate ready number ≡ true → AreCandidates ready places → AreCandidates ready (put places number cpu)
put_candidates ready places number None one all = all
put_candidates ready places number (Some cpu) one all = record {
  each = λ i n e. elim (set_other places cpu i n number e) [ inl p ↦ ap (is_candidate ready) p.1 ∙ one | inr q ↦ all.each i n q ];
}

put_wide : (places : Places) (number : ℕ) (cpu : Option ℕ) → length (put places number cpu) ≡ length places
put_wide places number None = refl
put_wide places number (Some cpu) = length-set places cpu (Some number)

-- what the placement keeps
pub record IsCharging (ready : List Candidate) (cpus : ℕ) (places : Places) : Type 0 where
  pub wide : length places ≡ cpus
  pub apart : HasNoTaskTwice places
  pub candidates : AreCandidates ready places

seated_keeps : (ready : List Candidate) (cpus : ℕ) (places : Places) (c : Candidate) → is_candidate ready c.number ≡ true → IsCharging ready cpus places → IsCharging ready cpus (assigned places c)
seated_keeps ready cpus places c one is =
    elim (is_on_cpu c.number places) as (λ b. is_on_cpu c.number places ≡ b → IsCharging ready cpus (cond b places (put places c.number (cpu_for places c)))) [
      | true ↦ λ e. is
      | false ↦ λ e. record {
        wide = put_wide places c.number (cpu_for places c) ∙ is.wide;
        apart = put_apart places c.number (cpu_for places c) e is.apart;
        candidates = put_candidates ready places c.number (cpu_for places c) one is.candidates;
      }
    ] refl

found_passes : {X : Type 0} (p q : X → Bool) (xs : List X) (x : X) → find p xs ≡ Some x → q x ≡ true → list_any q xs ≡ true
found_passes p q [] x e h = absurd cc
found_passes p q (y ∷ xs) x e h =
    elim (p y) as (λ b. cond b (Some y) (find p xs) ≡ Some x → (q y || list_any q xs) ≡ true) [
      | true ↦ λ a. let same : y ≡ x = same_Some y x a in rw (ap q same ∙ h) refl
      | false ↦ λ a. rw (found_passes p q xs x a h) (or_true (q y))
    ] e

seated_if_keeps : (ready : List Candidate) (cpus : ℕ) (places : Places) (r : ℕ) → IsCharging ready cpus places → IsCharging ready cpus (assigned_if places (candidate_at_rank ready r))
seated_if_keeps ready cpus places r is =
    elim (candidate_at_rank ready r) as (λ o. candidate_at_rank ready r ≡ o → IsCharging ready cpus (assigned_if places o)) [
      | None ↦ λ e. is
      | Some c ↦ λ e. seated_keeps ready cpus places c (found_passes (λ c. eqb (rank ready c) r) (λ x. eqb x.number c.number) ready c e (eq-eqb c.number c.number refl)) is
    ] refl

seated_upto_keeps : (ready : List Candidate) (cpus : ℕ) (places : Places) (r : ℕ) → IsCharging ready cpus places → IsCharging ready cpus (assigned_upto ready places r)
seated_upto_keeps ready cpus places zero is = is
seated_upto_keeps ready cpus places (suc r) is = seated_if_keeps ready cpus (assigned_upto ready places r) r (seated_upto_keeps ready cpus places r is)

pub placed_is : (cpus : ℕ) (ready : List Candidate) (before : Places) → length before ≡ cpus → HasNoTaskTwice before → IsCharging ready cpus (placed cpus ready before)
placed_is cpus ready before wide apart =
    let e : length (map (kept_if_chosen cpus ready) before) ≡ length before = simp length-map in
    seated_upto_keeps ready cpus (map (kept_if_chosen cpus ready) before) cpus (record { wide = e ∙ wide; apart = kept_apart cpus ready before apart; candidates = kept_candidates cpus ready before })
