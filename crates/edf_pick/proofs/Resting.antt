-- After a choice each task that runs belongs to its CPU: those that start get it, the others have
-- it.
use Rattle.std.proofs.Common.{◌≡◌, ◌≢◌, ◌<◌, ◌+◌, ℕ, zero, suc, Bool, true, false, cond, ltb, Some, None, List, [], ◌∷◌, length, map, get_or, refl, sym, ap, ◌∙◌, subst, arith, inl, inr, eq-eqb, zero-add}
use Rattle.std.specs.Prelude.{◌⊎◌, All, position}
use Rattle.std.specs.List.{position_or_len}
use Rattle.std.proofs.lemmas.Bool.{cases_Bool, cases_eq, lt-ltb, le-ltb, or_parts}
use Rattle.std.proofs.lemmas.List.Sums.{position_or_len_is}
use Rattle.edf_pick.specs.declared.candidate.Candidate.{Candidate}
use Rattle.edf_pick.specs.declared.moves.Moved.{Moved}
use Rattle.edf_pick.specs.Changes.{home_on, with_home}
use Rattle.edf_pick.specs.Moves.{same_occupant, moved_from}
use Rattle.edf_pick.specs.Places.{Places, AreSingle, is_task, is_on_cpu}
use Rattle.edf_pick.specs.Schedule.{IsAtHome, homed_on, homed_by}
use Rattle.edf_pick.proofs.Occupants.{task_is, occupied, runs_here}
use Rattle.edf_pick.proofs.Moving.{same_is}
use Rattle.edf_pick.proofs.OnCpu.{runs_where}

-- MAPS
pub map_same_on : (f g : Candidate → Candidate) (xs : List Candidate) → All (λ x. f x ≡ g x) xs → map f xs ≡ map g xs
map_same_on f g [] same = refl
map_same_on f g (x ∷ xs) same =
    ap (λ (y : Candidate). y ∷ map f xs) (same 0 x (omega arith)) ∙ ap (λ (ys : List Candidate). g x ∷ ys) (map_same_on f g xs (λ k d h. same (suc k) d (omega (arith, h))))

-- where a task runs
pub on_position : (places : Places) (cpu n : ℕ) → AreSingle places → get_or places cpu None ≡ Some n → position (is_task n) places ≡ Some cpu
on_position places cpu n single on =
    let within : cpu < length places = occupied places cpu n on in
    let here : is_task n (get_or places cpu None) ≡ true = ap (is_task n) on ∙ eq-eqb n n refl in
    let first : position_or_len (is_task n) places ≡ cpu =
    position_or_len_is (is_task n) places cpu None (omega (arith, within))
    (λ k l. other k (elim (cases_Bool (is_task n (get_or places k None))) [
      | inl t ↦ inl (let same : k ≡ cpu = single k cpu n (task_is n (get_or places k None) t) on in absurd (omega (arith, l, same)))
      | inr f ↦ inr f
    ]))
    (λ _. here) in
    ap (λ (k : ℕ). cond (ltb k (length places)) (Some k) None) first ∙ ap (λ (b : Bool). cond b (Some cpu) None) (lt-ltb cpu (length places) within)
  where
    other : (k : ℕ) → ⊥ ⊎ (is_task n (get_or places k None) ≡ false) → is_task n (get_or places k None) ≡ false
    other k (inl never) = absurd never
    other k (inr f) = f

-- ONE CPU
off : (places : Places) (cpu : ℕ) (c : Candidate) → is_task c.number (get_or places cpu None) ≡ false → homed_on places cpu c ≡ c
off places cpu c e = ap (λ (b : Bool). cond b (record c { home = cpu }) c) e

-- ALL CPUS

-- a task that runs nowhere keeps its home
nowhere : (places : Places) (n cpu : ℕ) → is_on_cpu n places ≡ false → is_task n (get_or places cpu None) ≡ false
nowhere [] n cpu e = refl
nowhere (o ∷ places) n zero e = (or_parts (is_task n o) (is_on_cpu n places) e).0
nowhere (o ∷ places) n (suc cpu) e = nowhere places n cpu (or_parts (is_task n o) (is_on_cpu n places) e).1

by_nowhere : (places : Places) (moves : List Moved) (c : Candidate) → is_on_cpu c.number places ≡ false → homed_by places moves c ≡ c
by_nowhere places [] c e = refl
by_nowhere places (m ∷ moves) c e = ap (λ (a : Candidate). homed_by places moves a) (off places m.cpu c (nowhere places c.number m.cpu e)) ∙ by_nowhere places moves c e

pub no_position : (places : Places) (n : ℕ) → is_on_cpu n places ≡ false → position (is_task n) places ≡ None
no_position places n e =
    let k : position_or_len (is_task n) places ≡ length places = position_or_len_is (is_task n) places (length places) None (omega arith) (λ k l. nowhere places n k e) (λ l. absurd (omega arith)) in
    ap (λ (j : ℕ). cond (ltb j (length places)) (Some j) None) k ∙ ap (λ (b : Bool). cond b (Some (length places)) None) (le-ltb (length places) (length places) (omega arith))

by_where : (places : Places) (moves : List Moved) (c : Candidate) (cpu : ℕ) → AreSingle places → get_or places cpu None ≡ Some c.number → (c.home ≡ cpu) ⊎ ((j : ℕ) × (d : Moved) × (j < length moves) × ((get_or moves j d).cpu ≡ cpu))
    → homed_by places moves c ≡ record c { home = cpu }
by_where places [] c cpu single on (inl e) = λ i. record { deadline = c.deadline; number = c.number; home = e i }
by_where places [] c cpu single on (inr (j, d, h, e)) = absurd (omega (arith, h))
by_where places (m ∷ moves) c cpu single on why =
    elim (cases_eq m.cpu cpu) [
      | inl same ↦
          let here : is_task c.number (get_or places m.cpu None) ≡ true = ap (λ (k : ℕ). is_task c.number (get_or places k None)) same ∙ ap (is_task c.number) on ∙ eq-eqb c.number c.number refl in
          let is : homed_on places m.cpu c ≡ record c { home = cpu } = ap (λ (b : Bool). cond b (record c { home = m.cpu }) c) here ∙ ap (λ (k : ℕ). record c { home = k }) same in
          ap (λ (a : Candidate). homed_by places moves a) is ∙ by_where places moves (record c { home = cpu }) cpu single on (inl refl)
      | inr other ↦
          let there : is_task c.number (get_or places m.cpu None) ≡ false = elim (cases_Bool (is_task c.number (get_or places m.cpu None))) [
            | inl hit ↦ absurd (other (single m.cpu cpu c.number (task_is c.number (get_or places m.cpu None) hit) on))
            | inr f ↦ f
          ] in
          ap (λ (a : Candidate). homed_by places moves a) (off places m.cpu c there) ∙ by_where places moves c cpu single on (rest why other)
    ]
  where
    rest : (c.home ≡ cpu) ⊎ ((j : ℕ) × (d : Moved) × (j < length (m ∷ moves)) × ((get_or (m ∷ moves) j d).cpu ≡ cpu)) → m.cpu ≢ cpu → (c.home ≡ cpu) ⊎ ((j : ℕ) × (d : Moved) × (j < length moves) × ((get_or moves j d).cpu ≡ cpu))
    rest (inl e) other = inl e
    rest (inr (zero, d, h, e)) other = absurd (other e)
    rest (inr (suc j, d, h, e)) other = inr (j, d, omega (arith, h), e)

-- a CPU that another one has is listed
listed : (k i : ℕ) (before after : Places) → length before ≡ length after → i < length before → same_occupant (get_or before i None) (get_or after i None) ≡ false
    → (j : ℕ) × (d : Moved) × (j < length (moved_from k before after)) × ((get_or (moved_from k before after) j d).cpu ≡ k + i)
listed k i [] after len h differs = absurd (omega (arith, h))
listed k i (b ∷ before) [] len h differs = absurd (omega (arith, len))
listed k zero (b ∷ before) (a ∷ after) len h differs =
    let rest = moved_from (k + 1) before after in
    let one : Moved = record { cpu = k; before = b } in
    let is : moved_from k (b ∷ before) (a ∷ after) ≡ one ∷ rest = ap (λ (t : Bool). cond t rest (one ∷ rest)) differs in
    let here : k ≡ k + 0 = omega arith in
    subst (λ (ms : List Moved). (j : ℕ) × (d : Moved) × (j < length ms) × ((get_or ms j d).cpu ≡ k + 0)) (sym is) (0, one, omega arith, here)
listed k (suc i) (b ∷ before) (a ∷ after) len h differs =
    let rest = moved_from (k + 1) before after in
    let one : Moved = record { cpu = k; before = b } in
    let more = listed (k + 1) i before after (omega (arith, len)) (omega (arith, h)) differs in
    let at : (get_or rest more.0 more.1).cpu ≡ k + suc i = more.3 ∙ shift in
    by_test (same_occupant b a) rest one more.0 more.1 more.2 at
  where
    shift : (k + 1) + i ≡ k + suc i
    shift = omega arith

    by_test : (t : Bool) (rest : List Moved) (one : Moved) (j : ℕ) (d : Moved) → j < length rest → (get_or rest j d).cpu ≡ k + suc i
        → (j : ℕ) × (d : Moved) × (j < length (cond t rest (one ∷ rest))) × ((get_or (cond t rest (one ∷ rest)) j d).cpu ≡ k + suc i)
    by_test true rest one j d l at = (j, d, l, at)
    by_test false rest one j d l at = (suc j, d, omega (arith, l), at)

-- THE WHOLE
module _ (before after : Places) (len : length after ≡ length before) (was : AreSingle before) (single : AreSingle after) where
  pub homes_of : (c : Candidate) → IsAtHome before c → homed_by after (moved_from 0 before after) c ≡ with_home after c
  homes_of c home =
      elim (cases_Bool (is_on_cpu c.number after)) [
        | inl there ↦
            let w = runs_where c.number after there in
            let within : w.0 < length after = occupied after w.0 c.number w.1 in
            let is : with_home after c ≡ record c { home = w.0 } = ap (home_on c) (on_position after w.0 c.number single w.1) in
            by_where after (moved_from 0 before after) c w.0 single w.1 (why w.0 w.1 within) ∙ sym is
        | inr absent ↦ by_nowhere after (moved_from 0 before after) c absent ∙ sym (ap (home_on c) (no_position after c.number absent))
      ]
    where
      why : (cpu : ℕ) → get_or after cpu None ≡ Some c.number → cpu < length after → (c.home ≡ cpu) ⊎ ((j : ℕ) × (d : Moved) × (j < length (moved_from 0 before after)) × ((get_or (moved_from 0 before after) j d).cpu ≡ cpu))
      why cpu on within =
          elim (cases_Bool (same_occupant (get_or before cpu None) (get_or after cpu None))) [
            | inl same ↦
                let was_on_cpu : get_or before cpu None ≡ Some c.number = same_is (get_or before cpu None) (get_or after cpu None) same ∙ on in
                let at_home : get_or before c.home None ≡ Some c.number = task_is c.number (get_or before c.home None) (home (runs_here c.number before cpu was_on_cpu)) in
                inl (was c.home cpu c.number at_home was_on_cpu)
            | inr differs ↦
                let l = listed 0 cpu before after (sym len) (omega (arith, len, within)) differs in
                inr (l.0, l.1, l.2, l.3 ∙ zero-add cpu)
          ]

  pub all_homes : (queue : List Candidate) → All (IsAtHome before) queue → map (homed_by after (moved_from 0 before after)) queue ≡ map (with_home after) queue
  all_homes queue homes = map_same_on (homed_by after (moved_from 0 before after)) (with_home after) queue (λ k d h. homes_of (get_or queue k d) (homes k d h))
