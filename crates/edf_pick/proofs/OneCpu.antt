-- One CPU.
use Rattle.std.proofs.Common.{◌≡◌, ◌≤◌, ◌+◌, ◌++◌, ◌∙◌, ℕ, zero, suc, Bool, true, false, cond, Option, Some, None, List, [], ◌∷◌, length, get_or, set, refl, sym, ap, subst, arith, inr}
use Rattle.std.specs.Prelude.{All, is_none, position, slice_get}
use Rattle.std.specs.List.Sorted.{IsPermutation}
use Rattle.std.proofs.lemmas.List.Elements.{All-nil, All-cons}
use Rattle.std.proofs.lemmas.List.Sorted.{IsPermutation-refl}
use Rattle.edf_pick.specs.declared.candidate.Candidate.{Candidate}
use Rattle.edf_pick.specs.Choice.{is_before}
use Rattle.edf_pick.specs.Places.{Places, is_free}
use Rattle.edf_pick.specs.private.Choosing.{chosen_stays, chosen_movers, IsChoosing, IsChosen}
use Rattle.edf_pick.specs.Changes.{is_home}
use Rattle.edf_pick.specs.private.Ready.{all_held, running_places, AreOn, AreAssigned}
use Rattle.edf_pick.proofs.Chosen.{home_within, chosen_is}
use Rattle.edf_pick.proofs.Rising.{rising_first}
use Rattle.edf_pick.proofs.Waits.{none_assigned, one_assigned}

-- who stays is the occupant
one_stays : (stays : List (Option Candidate)) (places : Places) → length stays ≡ 1 → length places ≡ 1 → AreOn stays places → (length (all_held stays) ≡ 0 → ⊥) → running_places stays ≡ places
one_stays [] places h l on busy = absurd (omega arith)
one_stays (o ∷ p ∷ stays) places h l on busy = absurd (omega arith)
one_stays (o ∷ []) [] h l on busy = absurd (omega arith)
one_stays (o ∷ []) (a ∷ b ∷ places) h l on busy = absurd (omega arith)
one_stays (None ∷ []) (a ∷ []) h l on busy = absurd (busy refl)
one_stays (Some c ∷ []) (a ∷ []) h l on busy = ap (λ (o : Option ℕ). o ∷ []) (sym (on 0 c refl).1)

pub busy_assigned : (stays : List (Option Candidate)) (movers : List Candidate) (places : Places) → length stays ≡ 1 → length places ≡ 1 → AreOn stays places → length (all_held stays) + length movers ≤ length stays → (length (all_held stays) ≡ 0 → ⊥)
    → AreAssigned stays movers stays places
busy_assigned stays [] places h l on free busy = subst (λ (ps : Places). AreAssigned stays [] stays ps) (one_stays stays places h l on busy) (none_assigned stays places on)
busy_assigned stays (m ∷ movers) places h l on free busy = absurd (omega arith)

-- nobody stays
none_on : AreOn (None ∷ []) (None ∷ [])
none_on zero c at = absurd cc
none_on (suc cpu) c at = absurd cc

pub idle_assigned : (stays : List (Option Candidate)) (movers : List Candidate) → length stays ≡ 1 → length (all_held stays) ≡ 0 → length movers ≡ 0 → AreAssigned stays movers stays (None ∷ [])
idle_assigned [] movers h bare none = absurd (omega arith)
idle_assigned (o ∷ p ∷ stays) movers h bare none = absurd (omega arith)
idle_assigned (Some c ∷ []) movers h bare none = absurd (omega arith)
idle_assigned (None ∷ []) (m ∷ movers) h bare none = absurd (omega arith)
idle_assigned (None ∷ []) [] h bare none = none_assigned (None ∷ []) (None ∷ []) none_on

-- the CPU is the seat of any task
one_assign : (home : ℕ) → cond (is_free (slice_get {X = Option ℕ} (None ∷ []) home)) (Some home) (position (λ (o : Option ℕ). is_none o) (None ∷ [])) ≡ Some 0
one_assign zero = refl
one_assign (suc home) = refl

pub mover_assigned : (stays : List (Option Candidate)) (movers : List Candidate) (d : Candidate) → length stays ≡ 1 → length (all_held stays) ≡ 0 → length (all_held stays) + length movers ≤ length stays → (length movers ≡ 0 → ⊥)
    → AreAssigned stays movers (set stays 0 (Some (record (get_or movers 0 d) { home = 0 }))) (Some (get_or movers 0 d).number ∷ [])
mover_assigned [] movers d h bare free some = absurd (omega arith)
mover_assigned (o ∷ p ∷ stays) movers d h bare free some = absurd (omega arith)
mover_assigned (Some c ∷ []) movers d h bare free some = absurd (omega arith)
mover_assigned (None ∷ []) [] d h bare free some = absurd (some refl)
mover_assigned (None ∷ []) (a ∷ b ∷ movers) d h bare free some = absurd (omega arith)
mover_assigned (None ∷ []) (c ∷ []) d h bare free some = one_assigned (None ∷ []) [] (None ∷ []) (None ∷ []) c 0 (none_assigned (None ∷ []) (None ∷ []) none_on) refl (one_assign c.home)

-- THE FIRST OF THOSE WHO WAIT HAS THE CPU
-- who stays and who moves by the choice, and that the task stays there then
abbrev pub FirstHas : Candidate → List Candidate → Places → Type 0
FirstHas c ready_rest places =
    (stays : List (Option Candidate)) × (movers : List Candidate) × IsPermutation (c ∷ ready_rest) (all_held stays ++ (movers ++ ready_rest)) × IsChosen stays movers ready_rest places
    × AreAssigned stays movers (Some (record c { home = 0 }) ∷ []) (Some c.number ∷ [])

first_has : (c : Candidate) (ready_rest : List Candidate) (places : Places) → length places ≡ 1 → IsChoosing (None ∷ []) [] (c ∷ ready_rest) places → FirstHas c ready_rest places
first_has c ready_rest places one is = by_home (is_home places c) refl
  where
    rest : All (λ b. is_before c b ≡ true) ready_rest
    rest = rising_first c ready_rest is.waits

    choosing : IsChoosing (chosen_stays places c (None ∷ [])) (chosen_movers places c []) ready_rest places
    choosing = chosen_is (None ∷ []) [] ready_rest places c is (omega (arith, one))

    then : (b : Bool) → is_home places c ≡ b → IsChoosing (cond b (set (None ∷ []) c.home (Some c)) (None ∷ [])) (cond b [] (c ∷ [])) ready_rest places
    then b e = subst (λ (t : Bool). IsChoosing (cond t (set (None ∷ []) c.home (Some c)) (None ∷ [])) (cond t [] (c ∷ [])) ready_rest places) e choosing

    by_home : (b : Bool) → is_home places c ≡ b → FirstHas c ready_rest places
    by_home true e =
        let h = home_within places c e in
        let zero_home : c.home ≡ 0 = omega (arith, h, one) in
        let chosen : IsChoosing (Some c ∷ []) [] ready_rest places = subst (λ (k : ℕ). IsChoosing (set (None ∷ []) k (Some c)) [] ready_rest places) zero_home (then true e) in
        let same : c ≡ record c { home = 0 } = ap (λ (k : ℕ). record c { home = k }) zero_home in (
          Some c ∷ [],
          [],
          IsPermutation-refl (c ∷ ready_rest),
          record {
            choosing = chosen;
            all = inr (sym one);
            first = All-cons (λ a. All (λ b. is_before a b ≡ true) ready_rest) c [] rest (All-nil (λ a. All (λ b. is_before a b ≡ true) ready_rest));
          },
          subst (λ (x : Candidate). AreAssigned (Some c ∷ []) [] (Some x ∷ []) (Some c.number ∷ [])) same (none_assigned (Some c ∷ []) places chosen.on),
        )
    by_home false e = (
      None ∷ [],
      c ∷ [],
      IsPermutation-refl (c ∷ ready_rest),
      record { choosing = then false e; all = inr (sym one); first = All-nil (λ a. All (λ b. is_before a b ≡ true) ready_rest) },
      mover_assigned (None ∷ []) (c ∷ []) c refl refl (omega arith) (λ none. omega (arith, none)),
    )

bare_is : (stays : List (Option Candidate)) → length stays ≡ 1 → length (all_held stays) ≡ 0 → stays ≡ None ∷ []
bare_is [] h bare = absurd (omega arith)
bare_is (o ∷ p ∷ stays) h bare = absurd (omega arith)
bare_is (Some c ∷ []) h bare = absurd (omega arith)
bare_is (None ∷ []) h bare = refl

pub first_has_it : (stays : List (Option Candidate)) (c : Candidate) (ready_rest : List Candidate) (places : Places) → length places ≡ 1 → length (all_held stays) ≡ 0 → IsChoosing stays [] (c ∷ ready_rest) places → FirstHas c ready_rest places
first_has_it stays c ready_rest places one bare is =
    first_has c ready_rest places one (subst (λ (ss : List (Option Candidate)). IsChoosing ss [] (c ∷ ready_rest) places) (bare_is stays (is.len ∙ one) bare) is)

pub only_bare : (stays : List (Option Candidate)) → length stays ≡ 1 → length (all_held stays) ≡ 0 → get_or stays 0 None ≡ None
only_bare stays h bare = ap (λ (ss : List (Option Candidate)). get_or ss 0 None) (bare_is stays h bare)

pub only_set : (stays : List (Option Candidate)) (c : Candidate) → length stays ≡ 1 → length (all_held stays) ≡ 0 → set stays 0 (Some c) ≡ Some c ∷ []
only_set stays c h bare = ap (λ (ss : List (Option Candidate)). set ss 0 (Some c)) (bare_is stays h bare)

pub none_held : (stays : List (Option Candidate)) → length stays ≡ 1 → length (all_held stays) ≡ 0 → all_held stays ≡ []
none_held stays h bare = ap (λ (ss : List (Option Candidate)). all_held ss) (bare_is stays h bare)
