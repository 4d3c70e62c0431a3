-- The choice, one task after another.
use Rattle.std.proofs.Common.{◌≡◌, ◌≢◌, ◌<◌, ◌≤◌, ◌+◌, ◌*◌, ◌^◌, ◌⊎◌, ◌++◌, ℕ, true, false, cond, Option, Some, None, List, [], ◌∷◌, length, get_or, set, refl, sym, ap, ◌∙◌, subst, arith, inl, inr, append_assoc, length-append, eq-eqb}
use Rattle.std.specs.Prelude.{All, is_some}
use Rattle.std.specs.List.Sorted.{IsPermutation}
use Rattle.std.proofs.lemmas.Bool.{cases_eq, cases_Bool}
use Rattle.std.proofs.lemmas.List.{get_or_past, get_or-set_same, get_or-set_other, length-set}
use Rattle.std.proofs.lemmas.List.Elements.{All-nil, All-cons, All-head, All-tail, All-weaker, All-append, Contains-get_or, Contains-append_right}
use Rattle.std.proofs.lemmas.List.Kept.{AllPairs-cons}
use Rattle.std.proofs.lemmas.List.Sums.{sum_by-append, sum_by-cons}
use Rattle.std.proofs.lemmas.List.Sorted.{IsPermutation-refl, IsPermutation-sym, IsPermutation-trans, IsPermutation-cons, IsPermutation-insert, IsPermutation-middle, IsPermutation-append_left, IsPermutation-append_right, sum_by-IsPermutation}
use Rattle.edf_pick.specs.declared.candidate.Candidate.{Candidate}
use Rattle.edf_pick.specs.Choice.{is_before}
use Rattle.edf_pick.specs.Order.{IsRising, has_candidate, with_candidate}
use Rattle.edf_pick.specs.Places.{Places, is_task, is_on_cpu}
use Rattle.edf_pick.specs.Schedule.{IsAtHome}
use Rattle.edf_pick.specs.private.Choosing.{chosen_stays, chosen_movers, IsChoosing, IsChosen, AreBefore, total}
use Rattle.edf_pick.specs.Changes.{is_home}
use Rattle.edf_pick.specs.private.RunningSet.{bare_key}
use Rattle.edf_pick.specs.private.Ready.{all_held, AreOn, IsReady}
use Rattle.edf_pick.proofs.Before.{key, before_logs, before_both, before_other, number_differs}
use Rattle.edf_pick.proofs.CallerLemmas.{IsNumbered, numbered_rest}
use Rattle.edf_pick.proofs.Held.{held_more, held_less, held_contains, held_length}
use Rattle.edf_pick.proofs.Occupants.{task_is}
use Rattle.edf_pick.proofs.Rising.{All-with, rising_first, rising_rest, rising_with, insert_place, place}
use Rattle.edf_pick.proofs.Scheduling.{absent_number}
use Rattle.edf_pick.proofs.Sorting.{numbered_left, numbered_same, rising_append}
use Rattle.edf_pick.proofs.Stays.{count_more, count_less}
use Rattle.edf_pick.proofs.Waits.{numbers_apart, on_less}

-- ONE MORE IS CHOSEN
pub home_within : (places : Places) (c : Candidate) → is_home places c ≡ true → c.home < length places
home_within places c home = by_place (get_or_past places c.home None)
  where
    clash : length places ≤ c.home → ⊥
    clash past = let e : true ≡ false = sym home ∙ ap (λ (o : Option ℕ). is_task c.number o) (get_or_past places c.home None past) in cc

    by_place : (length places ≤ c.home → get_or places c.home None ≡ None) → c.home < length places
    by_place none = let no_more = clash in omega (arith, no_more)

-- nobody stays where the first of those who wait runs
pub home_bare : (stays : List (Option Candidate)) (movers ready_rest : List Candidate) (places : Places) (c : Candidate) → IsChoosing stays movers (c ∷ ready_rest) places → is_home places c ≡ true → get_or stays c.home None ≡ None
home_bare stays movers ready_rest places c is home = by_stay (get_or stays c.home None) refl
  where
    by_stay : (o : Option Candidate) → get_or stays c.home None ≡ o → o ≡ None
    by_stay None e = refl
    by_stay (Some d) e =
        let on = is.on c.home d e in
        let there : Some d.number ≡ Some c.number = sym on.1 ∙ task_is c.number (get_or places c.home None) home in
        let same : d.number ≡ c.number = cc in
        absurd (numbers_apart (all_held stays) (movers ++ c ∷ ready_rest) d c is.numbered (held_contains stays c.home d e) (Contains-append_right movers (c ∷ ready_rest) c (0, omega arith, refl)) same)

on_home : (stays : List (Option Candidate)) (places : Places) (c : Candidate) → c.home < length stays → is_home places c ≡ true → AreOn stays places → AreOn (set stays c.home (Some c)) places
on_home stays places c h home on cpu d at = elim (cases_eq cpu c.home) [
  | inl here ↦
      let read : Some c ≡ Some d = sym (get_or-set_same stays c.home (Some c) None h) ∙ ap (λ (k : ℕ). get_or (set stays c.home (Some c)) k None) (sym here) ∙ at in
      let same : c ≡ d = cc in
      (ap (λ (x : Candidate). x.home) (sym same) ∙ sym here, ap (λ (k : ℕ). get_or places k None) here ∙ task_is c.number (get_or places c.home None) home ∙ ap (λ (x : Candidate). Some x.number) same)
  | inr apart ↦ on cpu d (sym (get_or-set_other stays c.home cpu (Some c) None apart) ∙ at)
]

-- the tasks are the same
pub chosen_same : (stays : List (Option Candidate)) (movers ready_rest : List Candidate) (places : Places) (c : Candidate) → IsChoosing stays movers (c ∷ ready_rest) places
    → IsPermutation (all_held stays ++ (movers ++ c ∷ ready_rest)) (all_held (chosen_stays places c stays) ++ (chosen_movers places c movers ++ ready_rest))
chosen_same stays movers ready_rest places c is =
    let all = all_held stays ++ (movers ++ c ∷ ready_rest) in
    elim (is_home places c) as (λ b. is_home places c ≡ b → IsPermutation all (all_held (cond b (set stays c.home (Some c)) stays) ++ (cond b movers (movers ++ c ∷ []) ++ ready_rest))) [
      | true ↦ λ e.
          let h = home_within places c e in
          let len = is.len in
          let more = held_more stays c.home c (omega (arith, h, len)) (home_bare stays movers ready_rest places c is e) in
          let new = all_held (set stays c.home (Some c)) in
          let rest = movers ++ ready_rest in
          IsPermutation-trans all (all_held stays ++ (c ∷ rest)) (new ++ rest)
          (IsPermutation-append_right (all_held stays) (movers ++ c ∷ ready_rest) (c ∷ rest) (IsPermutation-middle movers c ready_rest))
          (IsPermutation-trans (all_held stays ++ (c ∷ rest)) (c ∷ (all_held stays ++ rest)) (new ++ rest)
          (IsPermutation-middle (all_held stays) c rest)
          (IsPermutation-append_left rest (c ∷ all_held stays) new (IsPermutation-sym new (c ∷ all_held stays) more)))
      | false ↦ λ e. subst (λ (xs : List Candidate). IsPermutation all (all_held stays ++ xs)) (sym (append_assoc movers (c ∷ []) ready_rest)) (IsPermutation-refl all)
    ] refl

-- the first of those who wait has been chosen
pub chosen_is : (stays : List (Option Candidate)) (movers ready_rest : List Candidate) (places : Places) (c : Candidate) → IsChoosing stays movers (c ∷ ready_rest) places → length (all_held stays) + length movers < length places
    → IsChoosing (chosen_stays places c stays) (chosen_movers places c movers) ready_rest places
chosen_is stays movers ready_rest places c is free =
    let numbered = numbered_same (all_held stays ++ (movers ++ c ∷ ready_rest)) (all_held (chosen_stays places c stays) ++ (chosen_movers places c movers ++ ready_rest)) (chosen_same stays movers ready_rest places c is) is.numbered in
    let rest : All (λ a. All (λ b. is_before a b ≡ true) ready_rest) movers = All-weaker (λ a. All (λ b. is_before a b ≡ true) (c ∷ ready_rest)) (λ a. All (λ b. is_before a b ≡ true) ready_rest) (λ a all. All-tail (λ b. is_before a b ≡ true) c ready_rest all) movers is.before in
    let first : All (λ a. is_before a c ≡ true) movers = All-weaker (λ a. All (λ b. is_before a b ≡ true) (c ∷ ready_rest)) (λ a. is_before a c ≡ true) (λ a all. All-head (λ b. is_before a b ≡ true) c ready_rest all) movers is.before in
    let len = is.len in
    let one = All-head (IsAtHome places) c ready_rest is.homed in
    let others = All-tail (IsAtHome places) c ready_rest is.homed in
    let rising = rising_rest c ready_rest is.waits in
    elim (is_home places c) as (λ b. is_home places c ≡ b → IsNumbered (all_held (cond b (set stays c.home (Some c)) stays) ++ (cond b movers (movers ++ c ∷ []) ++ ready_rest))
    → IsChoosing (cond b (set stays c.home (Some c)) stays) (cond b movers (movers ++ c ∷ [])) ready_rest places) [
      | true ↦ λ e apart.
          let h = home_within places c e in
          let more = count_more stays c.home c (omega (arith, h, len)) (home_bare stays movers ready_rest places c is e) in
          record {
            len = length-set stays c.home (Some c) ∙ is.len;
            numbered = apart;
            on = on_home stays places c (omega (arith, h, len)) e is.on;
            away = is.away;
            homed = others;
            rising = is.rising;
            waits = rising;
            before = rest;
            few = omega (arith, more, free);
          }
      | false ↦ λ e apart.
          let absent : is_on_cpu c.number places ≡ false = (elim (cases_Bool (is_on_cpu c.number places)) [
            | inl there ↦ (let clash : true ≡ false = sym (one there) ∙ e in absurd cc)
            | inr none ↦ none
          ]) in
          let more = length-append movers (c ∷ []) in
          record {
            len = is.len;
            numbered = apart;
            on = is.on;
            away = All-append (λ a. is_on_cpu a.number places ≡ false) movers (c ∷ []) is.away (All-cons (λ a. is_on_cpu a.number places ≡ false) c [] absent (All-nil (λ a. is_on_cpu a.number places ≡ false)));
            homed = others;
            rising = rising_append movers (c ∷ []) is.rising (λ i j d low high. absurd (omega (arith, low, high))) (All-weaker (λ a. is_before a c ≡ true) (λ a. All (λ b. is_before a b ≡ true) (c ∷ [])) (λ a before. All-cons (λ b. is_before a b ≡ true) c [] before (All-nil (λ b. is_before a b ≡ true))) movers first);
            waits = rising;
            before = All-append (λ a. All (λ b. is_before a b ≡ true) ready_rest) movers (c ∷ []) rest (All-cons (λ a. All (λ b. is_before a b ≡ true) ready_rest) c [] (rising_first c ready_rest is.waits) (All-nil (λ a. All (λ b. is_before a b ≡ true) ready_rest)));
            few = omega (arith, more, free);
          }
    ] refl numbered

pub chosen_busy : (stays : List (Option Candidate)) (movers ready_rest : List Candidate) (places : Places) (c : Candidate) → IsChoosing stays movers (c ∷ ready_rest) places
    → length (all_held (chosen_stays places c stays)) + length (chosen_movers places c movers) ≡ length (all_held stays) + length movers + 1
chosen_busy stays movers ready_rest places c is =
    let len = is.len in
    elim (is_home places c) as (λ b. is_home places c ≡ b → length (all_held (cond b (set stays c.home (Some c)) stays)) + length (cond b movers (movers ++ c ∷ [])) ≡ length (all_held stays) + length movers + 1) [
      | true ↦ λ e.
          let h = home_within places c e in
          let more = count_more stays c.home c (omega (arith, h, len)) (home_bare stays movers ready_rest places c is e) in
          omega (arith, more)
      | false ↦ λ e. let more = length-append movers (c ∷ []) in omega (arith, more)
    ] refl

abbrev one_key : Candidate → ℕ
one_key c = c.deadline * 2 ^ 64 + c.number

pub chosen_total : (stays : List (Option Candidate)) (movers ready_rest : List Candidate) (places : Places) (c : Candidate) → IsChoosing stays movers (c ∷ ready_rest) places
    → total (all_held (chosen_stays places c stays) ++ chosen_movers places c movers) ≡ total (all_held stays ++ movers) + key c
chosen_total stays movers ready_rest places c is =
    let len = is.len in
    let old = sum_by-append one_key (all_held stays) movers in
    elim (is_home places c) as (λ b. is_home places c ≡ b → total (all_held (cond b (set stays c.home (Some c)) stays) ++ cond b movers (movers ++ c ∷ [])) ≡ total (all_held stays ++ movers) + key c) [
      | true ↦ λ e.
          let h = home_within places c e in
          let new = all_held (set stays c.home (Some c)) in
          let more = sum_by-IsPermutation one_key new (c ∷ all_held stays) (held_more stays c.home c (omega (arith, h, len)) (home_bare stays movers ready_rest places c is e)) in
          let parts = sum_by-append one_key new movers in
          let cons = sum_by-cons one_key c (all_held stays) in
          omega (arith, old, more, parts, cons)
      | false ↦ λ e.
          let parts = sum_by-append one_key (all_held stays) (movers ++ c ∷ []) in
          let last = sum_by-append one_key movers (c ∷ []) in
          let cons = sum_by-cons one_key c [] in
          omega (arith, old, parts, last, cons)
    ] refl

-- an earlier one has the smaller key
pub key_below : (a b : Candidate) → a.number < 2 ^ 64 → is_before a b ≡ true → key a < key b
key_below a b few h = elim (before_logs a b h) [ inl x ↦ omega arith | inr x ↦ omega arith ]

-- ONE WHO STAYS WAITS
pub released_same : (stays : List (Option Candidate)) (movers ready_rest : List Candidate) (c last : Candidate) → get_or stays last.home None ≡ Some last
    → IsPermutation (all_held stays ++ (movers ++ c ∷ ready_rest)) (all_held (set stays last.home None) ++ (movers ++ c ∷ with_candidate last ready_rest))
released_same stays movers ready_rest c last there =
    let new = all_held (set stays last.home None) in
    let tail = movers ++ c ∷ ready_rest in
    let later = with_candidate last ready_rest in
    let put : IsPermutation (last ∷ ready_rest) later = subst (λ (xs : List Candidate). IsPermutation (last ∷ ready_rest) xs) (sym (insert_place last ready_rest)) (IsPermutation-insert ready_rest (place last ready_rest) last) in
    let following : IsPermutation (last ∷ c ∷ ready_rest) (c ∷ later) =
    IsPermutation-trans (last ∷ c ∷ ready_rest) (c ∷ last ∷ ready_rest) (c ∷ later)
    (IsPermutation-sym (c ∷ last ∷ ready_rest) (last ∷ c ∷ ready_rest) (IsPermutation-middle (c ∷ []) last ready_rest))
    (IsPermutation-cons c (last ∷ ready_rest) later put) in
    let inner : IsPermutation (last ∷ tail) (movers ++ c ∷ later) =
    IsPermutation-trans (last ∷ tail) (movers ++ last ∷ c ∷ ready_rest) (movers ++ c ∷ later)
    (IsPermutation-sym (movers ++ last ∷ c ∷ ready_rest) (last ∷ tail) (IsPermutation-middle movers last (c ∷ ready_rest)))
    (IsPermutation-append_right movers (last ∷ c ∷ ready_rest) (c ∷ later) following) in
    IsPermutation-trans (all_held stays ++ tail) ((last ∷ new) ++ tail) (new ++ (movers ++ c ∷ later))
    (IsPermutation-append_left tail (all_held stays) (last ∷ new) (held_less stays last.home last there))
    (IsPermutation-trans ((last ∷ new) ++ tail) (new ++ (last ∷ tail)) (new ++ (movers ++ c ∷ later))
    (IsPermutation-sym (new ++ (last ∷ tail)) (last ∷ (new ++ tail)) (IsPermutation-middle new last tail))
    (IsPermutation-append_right new (last ∷ tail) (movers ++ c ∷ later) inner))

-- the condition of `put`
pub last_absent : (stays : List (Option Candidate)) (movers ready_rest : List Candidate) (places : Places) (c last : Candidate) → IsChoosing stays movers (c ∷ ready_rest) places → get_or stays last.home None ≡ Some last → has_candidate last ready_rest ≡ false
last_absent stays movers ready_rest places c last is there =
    absent_number last ready_rest (λ k d h same.
    let a = get_or ready_rest k d in
    numbers_apart (all_held stays) (movers ++ c ∷ ready_rest) last a is.numbered (held_contains stays last.home last there)
    (Contains-append_right movers (c ∷ ready_rest) a (Contains-append_right (c ∷ []) ready_rest a (Contains-get_or ready_rest k d h))) (sym same))

pub released_is : (stays : List (Option Candidate)) (movers ready_rest : List Candidate) (places : Places) (c last : Candidate) → IsChoosing stays movers (c ∷ ready_rest) places → get_or stays last.home None ≡ Some last → is_before c last ≡ true
    → IsChoosing (set stays last.home None) movers (c ∷ with_candidate last ready_rest) places
released_is stays movers ready_rest places c last is there before =
    let absent = last_absent stays movers ready_rest places c last is there in
    let on = is.on last.home last there in
    let fewer = count_less stays last.home (ap (λ (o : Option Candidate). is_some o) there) in
    let few = is.few in
    let first = rising_first c ready_rest is.waits in
    record {
      len = length-set stays last.home None ∙ is.len;
      numbered = numbered_same (all_held stays ++ (movers ++ c ∷ ready_rest)) (all_held (set stays last.home None) ++ (movers ++ c ∷ with_candidate last ready_rest)) (released_same stays movers ready_rest c last there) is.numbered;
      on = on_less stays places last.home is.on;
      away = is.away;
      homed = All-cons (IsAtHome places) c (with_candidate last ready_rest) (All-head (IsAtHome places) c ready_rest is.homed)
          (All-with (IsAtHome places) last ready_rest (λ _. ap (λ (o : Option ℕ). is_task last.number o) on.1 ∙ eq-eqb last.number last.number refl) (All-tail (IsAtHome places) c ready_rest is.homed));
      rising = is.rising;
      waits = AllPairs-cons (λ a b. is_before a b ≡ true) c (with_candidate last ready_rest) (All-with (λ b. is_before c b ≡ true) last ready_rest before first) (rising_with last ready_rest (rising_rest c ready_rest is.waits) absent);
      before = All-weaker (λ a. All (λ b. is_before a b ≡ true) (c ∷ ready_rest)) (λ a. All (λ b. is_before a b ≡ true) (c ∷ with_candidate last ready_rest))
          (λ a all.
          let here = All-head (λ b. is_before a b ≡ true) c ready_rest all in
          All-cons (λ b. is_before a b ≡ true) c (with_candidate last ready_rest) here (All-with (λ b. is_before a b ≡ true) last ready_rest (before_both a c last here before) (All-tail (λ b. is_before a b ≡ true) c ready_rest all)))
          movers is.before;
      few = omega (arith, fewer, few);
    }

pub released_total : (stays : List (Option Candidate)) (movers : List Candidate) (last : Candidate) → get_or stays last.home None ≡ Some last → total (all_held (set stays last.home None) ++ movers) + key last ≡ total (all_held stays ++ movers)
released_total stays movers last there =
    let new = all_held (set stays last.home None) in
    let old = sum_by-append one_key (all_held stays) movers in
    let less = sum_by-IsPermutation one_key (all_held stays) (last ∷ new) (held_less stays last.home last there) in
    let parts = sum_by-append one_key new movers in
    let cons = sum_by-cons one_key last new in
    omega (arith, old, less, parts, cons)

-- THE END
-- where the first of those who wait is before nobody who stays, those are before all who wait
pub before_first : (stays : List (Option Candidate)) (movers ready_rest : List Candidate) (places : Places) → IsChoosing stays movers ready_rest places
    → (ready_rest ≡ []) ⊎ All (λ a. is_before (get_or ready_rest 0 bare_key) a ≡ false) (all_held stays) → AreBefore (all_held stays) ready_rest
before_first stays movers [] places is none = λ k d h. All-nil (λ b. is_before (get_or (all_held stays) k d) b ≡ true)
before_first stays movers (c ∷ ready_rest) places is none = λ k d h.
    let a = get_or (all_held stays) k d in
    let past : is_before c a ≡ false = (elim none [ inl e ↦ absurd cc | inr all ↦ all k d h ]) in
    let apart : c.number ≢ a.number = λ same. numbers_apart (all_held stays) (movers ++ c ∷ ready_rest) a c is.numbered (Contains-get_or (all_held stays) k d h) (Contains-append_right movers (c ∷ ready_rest) c (0, omega arith, refl)) (sym same) in
    let first : is_before a c ≡ true = before_other c a past (number_differs c a apart) in
    All-cons (λ b. is_before a b ≡ true) c ready_rest first (All-weaker (λ b. is_before c b ≡ true) (λ b. is_before a b ≡ true) (λ b later. before_both a c b first later) ready_rest (rising_first c ready_rest is.waits))

pub all_before : (stays : List (Option Candidate)) (movers ready_rest : List Candidate) (places : Places) → IsChosen stays movers ready_rest places → AreBefore (all_held stays ++ movers) ready_rest
all_before stays movers ready_rest places is = All-append (λ a. All (λ b. is_before a b ≡ true) ready_rest) (all_held stays) movers is.first is.choosing.before

numbered_right : (xs ys : List Candidate) → IsNumbered (xs ++ ys) → IsNumbered ys
numbered_right [] ys numbered = numbered
numbered_right (x ∷ xs) ys numbered = numbered_right xs ys (numbered_rest x (xs ++ ys) numbered)

pub movers_numbered : (stays : List (Option Candidate)) (movers ready_rest : List Candidate) → IsNumbered (all_held stays ++ (movers ++ ready_rest)) → IsNumbered movers
movers_numbered stays movers ready_rest numbered = numbered_left movers ready_rest (numbered_right (all_held stays) (movers ++ ready_rest) numbered)

-- THE BEGINNING
pub none_chosen : (stays : List (Option Candidate)) (ready_rest : List Candidate) (places : Places) → IsReady stays ready_rest places → IsRising ready_rest → IsChoosing stays [] ready_rest places
none_chosen stays ready_rest places is rising =
    let len = is.len in
    let few = held_length stays in
    record {
      len = is.len;
      numbered = is.numbered;
      on = is.on;
      away = All-nil (λ c. is_on_cpu c.number places ≡ false);
      homed = is.homed;
      rising = λ i j d low high. absurd (omega (arith, low, high));
      waits = rising;
      before = All-nil (λ a. All (λ b. is_before a b ≡ true) ready_rest);
      few = omega (arith, few, len);
    }
