-- The occupants once the choice is made: who does not stay has gone, and the movers have come.
use Rattle.std.proofs.Common.{◌≡◌, ◌<◌, ◌≤◌, ◌+◌, ◌⊎◌, ◌++◌, ℕ, Bool, true, false, cond, eqb, Option, Some, None, List, [], ◌∷◌, length, take, get_or, map, refl, sym, ap, ◌∙◌, arith, inl, inr, eq-eqb}
use Rattle.std.specs.Prelude.{All}
use Rattle.std.specs.Int.{bit_at}
use Rattle.std.specs.List.{list_any}
use Rattle.std.specs.List.Sorted.{IsPermutation}
use Rattle.std.proofs.lemmas.Bool.{cases_eq, ne_eqb, or_left, or_right}
use Rattle.std.proofs.lemmas.List.{length-take-le}
use Rattle.std.proofs.lemmas.List.Folds.{list_any_none}
use Rattle.std.proofs.lemmas.Nat.Bits.{bit_at-lt}
use Rattle.edf_pick.specs.declared.candidate.Candidate.{Candidate}
use Rattle.edf_pick.specs.Changes.{with_home}
use Rattle.edf_pick.specs.Moves.{same_occupant}
use Rattle.edf_pick.specs.Order.{by_deadline}
use Rattle.edf_pick.specs.Places.{Places, count_occupant, put, cpu_for, assigned, is_on_cpu, AreSingle, AreTaken, placed}
use Rattle.edf_pick.specs.private.Choosing.{IsChosen}
use Rattle.edf_pick.specs.private.First.{assigned_all}
use Rattle.edf_pick.specs.private.Ready.{all_held, running_places, all_ready, AreOn, IsReady, AreAssigned}
use Rattle.edf_pick.proofs.Chosen.{all_before}
use Rattle.edf_pick.proofs.Occupants.{all_stay, put_at, runs_here}
use Rattle.edf_pick.proofs.Moving.{same_all}
use Rattle.edf_pick.proofs.Sorting.{ordered_same}
use Rattle.edf_pick.proofs.Waits.{next_assign, stays_length, stays_where, placed_by_movers, assigned_homed, assigned_ready}

pub none_taken : (o : Option ℕ) → count_occupant o ≡ 0 → o ≡ None
none_taken None e = refl
none_taken (Some n) e = absurd (omega arith)

-- who stays ran there before
pub stays_run : (stays : List (Option Candidate)) (old : Places) (cpu n : ℕ) → AreOn stays old → get_or (running_places stays) cpu None ≡ Some n → get_or old cpu None ≡ Some n
stays_run stays old cpu n on at = let w = stays_where stays cpu n at in (on cpu w.0 w.1).1 ∙ ap (λ (k : ℕ). Some k) w.2

-- who does not stay has gone
pub kept_are : (stays : List (Option Candidate)) (old new : Places) (marks was_on_cpu left : ℕ) → AreOn stays old → length stays ≡ length old → length new ≡ length old → AreTaken (running_places stays) marks → AreTaken old was_on_cpu
    → ((i : ℕ) → bit_at left i ≡ 1 → bit_at marks i ≡ 0) → ((i : ℕ) → bit_at left i ≡ 0 → bit_at marks i ≡ 0 → bit_at was_on_cpu i ≡ 0)
    → ((cpu : ℕ) → bit_at left cpu ≡ 1 → get_or new cpu None ≡ None) → ((cpu : ℕ) → bit_at left cpu ≡ 0 → get_or new cpu None ≡ get_or old cpu None)
    → new ≡ running_places stays
kept_are stays old new marks was_on_cpu left on many len marked there only bare gone others =
    let all = stays_length stays in
    same_all new (running_places stays) (omega (arith, all, many, len)) (λ cpu. elim (cases_eq (bit_at left cpu) 1) [
      | inl mark ↦ gone cpu mark ∙ sym (none_taken (get_or (running_places stays) cpu None) (sym (marked cpu) ∙ only cpu mark))
      | inr other ↦
          let few = bit_at-lt left cpu in
          let zero : bit_at left cpu ≡ 0 = omega (arith, other, few) in
          others cpu zero ∙ by_stay cpu zero (get_or (running_places stays) cpu None) refl
    ])
  where
    by_stay : (cpu : ℕ) → bit_at left cpu ≡ 0 → (o : Option ℕ) → get_or (running_places stays) cpu None ≡ o → get_or old cpu None ≡ get_or (running_places stays) cpu None
    by_stay cpu zero None e = none_taken (get_or old cpu None) (sym (there cpu) ∙ bare cpu zero (marked cpu ∙ ap count_occupant e)) ∙ sym e
    by_stay cpu zero (Some n) e = stays_run stays old cpu n on e ∙ sym e

-- each occupant stays
pub stay_all : (stays : List (Option Candidate)) (places : Places) (marks : ℕ) → AreOn stays places → length stays ≡ length places → AreTaken (running_places stays) marks → AreTaken places marks → running_places stays ≡ places
stay_all stays places marks on many marked there =
    let all = stays_length stays in
    same_all (running_places stays) places (omega (arith, all, many)) (λ cpu. by_stay cpu (get_or (running_places stays) cpu None) refl)
  where
    by_stay : (cpu : ℕ) (o : Option ℕ) → get_or (running_places stays) cpu None ≡ o → get_or (running_places stays) cpu None ≡ get_or places cpu None
    by_stay cpu None e = e ∙ sym (none_taken (get_or places cpu None) (sym (there cpu) ∙ marked cpu ∙ ap count_occupant e))
    by_stay cpu (Some n) e = e ∙ sym (stays_run stays places cpu n on e)

-- where nobody goes and nobody comes, the same one runs
pub same_there : (stays : List (Option Candidate)) (movers : List Candidate) (old new : Places) (cpu : ℕ) → AreOn stays old → new ≡ assigned_all movers (running_places stays)
    → (count_occupant (get_or (running_places stays) cpu None) ≡ 0 → count_occupant (get_or old cpu None) ≡ 0) → (count_occupant (get_or (running_places stays) cpu None) ≡ 0 → count_occupant (get_or new cpu None) ≡ 0) → get_or old cpu None ≡ get_or new cpu None
same_there stays movers old new cpu on is went came = by_occupant (get_or (running_places stays) cpu None) refl
  where
    by_occupant : (o : Option ℕ) → get_or (running_places stays) cpu None ≡ o → get_or old cpu None ≡ get_or new cpu None
    by_occupant None e =
        let none : count_occupant (get_or (running_places stays) cpu None) ≡ 0 = ap count_occupant e in
        none_taken (get_or old cpu None) (went none) ∙ sym (none_taken (get_or new cpu None) (came none))
    by_occupant (Some n) e = stays_run stays old cpu n on e ∙ sym (ap (λ (ps : Places). get_or ps cpu None) is ∙ all_stay movers (running_places stays) cpu n e)

-- the task that runs after others have got their CPUs is one of them or ran before
pub came_from : (cs : List Candidate) (places : Places) (cpu n : ℕ) → get_or (assigned_all cs places) cpu None ≡ Some n → (get_or places cpu None ≡ Some n) ⊎ (list_any (λ c. eqb c.number n) cs ≡ true)
came_from [] places cpu n on = inl on
came_from (c ∷ cs) places cpu n on =
    elim (came_from cs (assigned places c) cpu n on) [
      | inl was_on_cpu ↦ by_on_cpu (is_on_cpu c.number places) was_on_cpu
      | inr later ↦ inr (or_right (eqb c.number n) (list_any (λ x. eqb x.number n) cs) later)
    ]
  where
    by_assign : (o : Option ℕ) → get_or (put places c.number o) cpu None ≡ Some n → (get_or places cpu None ≡ Some n) ⊎ (list_any (λ x. eqb x.number n) (c ∷ cs) ≡ true)
    by_assign None e = inl e
    by_assign (Some at) e = elim (put_at places at c.number cpu n e) [
      | inl here ↦ inr (or_left (eqb c.number n) (list_any (λ x. eqb x.number n) cs) (eq-eqb c.number n here.1))
      | inr before ↦ inl before
    ]

    by_on_cpu : (b : Bool) → get_or (cond b places (put places c.number (cpu_for places c))) cpu None ≡ Some n → (get_or places cpu None ≡ Some n) ⊎ (list_any (λ x. eqb x.number n) (c ∷ cs) ≡ true)
    by_on_cpu true e = inl e
    by_on_cpu false e = by_assign (cpu_for places c) e

-- on a CPU from which somebody has gone or to which somebody has come another one runs
pub other_there : (stays : List (Option Candidate)) (movers : List Candidate) (old new : Places) (cpu : ℕ) → All (λ c. is_on_cpu c.number old ≡ false) movers → new ≡ assigned_all movers (running_places stays)
    → count_occupant (get_or (running_places stays) cpu None) ≡ 0 → (count_occupant (get_or old cpu None) ≡ 1) ⊎ (count_occupant (get_or new cpu None) ≡ 1) → same_occupant (get_or old cpu None) (get_or new cpu None) ≡ false
other_there stays movers old new cpu away is bare some = by_both (get_or old cpu None) (get_or new cpu None) refl refl
  where
    came : (n : ℕ) → get_or new cpu None ≡ Some n → list_any (λ c. eqb c.number n) movers ≡ true
    came n on = elim (came_from movers (running_places stays) cpu n (ap (λ (ps : Places). get_or ps cpu None) (sym is) ∙ on)) [
      | inl was_on_cpu ↦ absurd (let one : count_occupant (get_or (running_places stays) cpu None) ≡ 1 = ap count_occupant was_on_cpu in omega (arith, bare, one))
      | inr there ↦ there
    ]

    by_both : (o p : Option ℕ) → get_or old cpu None ≡ o → get_or new cpu None ≡ p → same_occupant o p ≡ false
    by_both None None at_o at_p = elim some [
      | inl was ↦ absurd (let none : count_occupant (get_or old cpu None) ≡ 0 = ap count_occupant at_o in omega (arith, was, none))
      | inr now ↦ absurd (let none : count_occupant (get_or new cpu None) ≡ 0 = ap count_occupant at_p in omega (arith, now, none))
    ]
    by_both None (Some n) at_o at_p = refl
    by_both (Some m) None at_o at_p = refl
    by_both (Some m) (Some n) at_o at_p = ne_eqb m n (λ same.
        let none : list_any (λ c. eqb c.number n) movers ≡ false = list_any_none (λ c. eqb c.number n) movers (λ k d h. ne_eqb (get_or movers k d).number n (λ number.
        let on_one : is_on_cpu (get_or movers k d).number old ≡ true = ap (λ j. is_on_cpu j old) (number ∙ sym same) ∙ runs_here m old cpu at_o in
        let clash : true ≡ false = sym on_one ∙ away k d h in cc)) in
        let clash : true ≡ false = sym (came n at_p) ∙ none in cc)

-- MARKS
-- a mark that is not bare is set
set_mark : (marks i : ℕ) → (bit_at marks i ≡ 0 → ⊥) → bit_at marks i ≡ 1
set_mark marks i never = elim (cases_eq (bit_at marks i) 1) [
  | inl e ↦ e
  | inr other ↦ absurd (never (omega (arith, other, bit_at-lt marks i)))
]

-- a mark of two words is one of the first or one of the second
pub either : (a b c i : ℕ) → (bit_at a i ≡ 0 → bit_at b i ≡ 0 → bit_at c i ≡ 0) → bit_at c i ≡ 1 → (bit_at a i ≡ 1) ⊎ (bit_at b i ≡ 1)
either a b c i only e = elim (cases_eq (bit_at a i) 1) [
  | inl first ↦ inl first
  | inr other ↦ inr (set_mark b i (λ none. let bare : bit_at a i ≡ 0 = omega (arith, other, bit_at-lt a i) in let zero = only bare none in omega (arith, e, zero)))
]

-- the next mover has a seat
pub next_mover : (stays : List (Option Candidate)) (movers : List Candidate) (i : ℕ) (d : Candidate) (now : List (Option Candidate)) (places : Places) → length (all_held stays) + length movers ≤ length stays → i < length movers
    → AreAssigned stays (take i movers) now places → (cpu : ℕ) × (cpu_for places (get_or movers i d) ≡ Some cpu)
next_mover stays movers i d now places free h is =
    let some = length-take-le i movers (omega (arith, h)) in
    next_assign stays (take i movers) now places (get_or movers i d) is (omega (arith, some, free, h))

-- THE WHOLE CHOICE
module _ (stays0 : List (Option Candidate)) (waiting0 : List Candidate) (stays : List (Option Candidate)) (movers ready_rest : List Candidate) (before : Places) (now : List (Option Candidate)) (places : Places) (is : IsReady stays0 waiting0 before)
    (single : AreSingle before) (same : IsPermutation (all_held stays0 ++ waiting0) (all_held stays ++ (movers ++ ready_rest))) (chosen : IsChosen stays movers ready_rest before) (assignments : AreAssigned stays movers now places) where
  whole : all_ready stays0 waiting0 ≡ by_deadline (all_held stays ++ (movers ++ ready_rest))
  whole = ordered_same (all_held stays0 ++ waiting0) (all_held stays ++ (movers ++ ready_rest)) is.numbered same

  pub picked_places : placed (length before) (all_ready stays0 waiting0) before ≡ places
  picked_places =
      let it = chosen.choosing in
      ap (λ (xs : List Candidate). placed (length before) xs before) whole
      ∙ placed_by_movers (length before) stays movers ready_rest before it.len it.numbered it.rising it.waits it.on it.away single it.few chosen.all (all_before stays movers ready_rest before chosen)
      ∙ sym assignments.assigned

  pub picked_homes : map (with_home places) (all_ready stays0 waiting0) ≡ all_ready now ready_rest
  picked_homes =
      let it = chosen.choosing in
      ap (λ (xs : List Candidate). map (with_home places) xs) whole ∙ assigned_homed stays movers ready_rest before now places it.numbered it.on single assignments

  pub picked_ready : IsReady now ready_rest places
  picked_ready =
      let it = chosen.choosing in
      assigned_ready stays movers ready_rest before now places it.numbered it.on single assignments
