-- A task comes, and waits; or goes, from where it stays or waits.
use Rattle.std.proofs.Common.{◌≡◌, ◌≢◌, ◌≤◌, ◌++◌, ◌||◌, ◌&&◌, ℕ, Bool, true, false, eqb, Option, Some, None, List, [], ◌∷◌, length, replicate, get_or, set, refl, sym, ap, ◌∙◌, subst, arith, length-append}
use Rattle.std.specs.Prelude.{All, Contains, filter, is_some, not}
use Rattle.std.specs.List.{list_any}
use Rattle.std.specs.List.Sorted.{IsPermutation}
use Rattle.std.proofs.lemmas.Bool.{or_right}
use Rattle.std.proofs.lemmas.List.{length-set, length-replicate}
use Rattle.std.proofs.lemmas.List.Elements.{All-nil, All-contains, All-filter, filter-append, Contains-get_or, Contains-append_right}
use Rattle.std.proofs.lemmas.List.Folds.{list_any_none, list_any-append}
use Rattle.std.proofs.lemmas.List.Kept.{AllPairs-cons, AllPairs-filter}
use Rattle.std.proofs.lemmas.List.Sorted.{IsPermutation-sym, IsPermutation-trans, IsPermutation-insert, IsPermutation-middle, IsPermutation-append_left, IsPermutation-append_right}
use Rattle.edf_pick.specs.declared.candidate.Candidate.{Candidate}
use Rattle.edf_pick.specs.Order.{is_same, has_candidate, with_candidate, without_candidate, by_deadline}
use Rattle.edf_pick.specs.Places.{Places}
use Rattle.edf_pick.specs.Schedule.{IsAtHome}
use Rattle.edf_pick.specs.private.Ready.{all_held, all_ready, is_there, IsReady, HasLeftReady}
use Rattle.edf_pick.proofs.Before.{same_logs}
use Rattle.edf_pick.proofs.CallerLemmas.{IsNumbered, numbered_rest, contains_ordered, has_ordered, ordered_there, ordered_remove, length_ordered}
use Rattle.edf_pick.proofs.Held.{held_less, All_held}
use Rattle.edf_pick.proofs.Rising.{All-with, insert_place, place, without_absent}
use Rattle.edf_pick.proofs.Scheduling.{absent_number}
use Rattle.edf_pick.proofs.Sorting.{numbered_same, ordered_same, ordered_without}
use Rattle.edf_pick.proofs.Stays.{held_none, none_at}
use Rattle.edf_pick.proofs.Waits.{numbers_apart, on_less}

-- NOBODY
-- no tasks, on so many idle CPUs
pub opened_all : (cpus : ℕ) → all_ready (replicate cpus None) [] ≡ []
opened_all cpus = ap (λ (xs : List Candidate). by_deadline (xs ++ [])) (held_none cpus)

pub opened_is : (cpus : ℕ) → IsReady (replicate cpus None) [] (replicate cpus None)
opened_is cpus = record {
  len = length-replicate {A = Option Candidate} cpus None ∙ sym (length-replicate {A = Option ℕ} cpus None);
  numbered = subst (λ (xs : List Candidate). IsNumbered (xs ++ [])) (sym (held_none cpus)) (λ i j d low high. absurd (omega (arith, low, high)));
  on = λ cpu c at. absurd (let clash : None ≡ Some c = sym (none_at cpus cpu) ∙ at in cc);
  homed = All-nil (IsAtHome (replicate cpus None));
}

-- ONE MORE WAITS
put_in : (c : Candidate) (ready_rest : List Candidate) → IsPermutation (c ∷ ready_rest) (with_candidate c ready_rest)
put_in c ready_rest = subst (λ (xs : List Candidate). IsPermutation (c ∷ ready_rest) xs) (sym (insert_place c ready_rest)) (IsPermutation-insert ready_rest (place c ready_rest) c)

came_in : (c : Candidate) (xs ready_rest : List Candidate) → IsPermutation (c ∷ (xs ++ ready_rest)) (xs ++ with_candidate c ready_rest)
came_in c xs ready_rest =
    IsPermutation-trans (c ∷ (xs ++ ready_rest)) (xs ++ c ∷ ready_rest) (xs ++ with_candidate c ready_rest)
    (IsPermutation-sym (xs ++ c ∷ ready_rest) (c ∷ (xs ++ ready_rest)) (IsPermutation-middle xs c ready_rest))
    (IsPermutation-append_right xs (c ∷ ready_rest) (with_candidate c ready_rest) (put_in c ready_rest))

more_numbered : (c : Candidate) (xs : List Candidate) → IsNumbered xs → All (λ a. a.number ≢ c.number) (by_deadline xs) → IsNumbered (c ∷ xs)
more_numbered c xs numbered others =
    AllPairs-cons (λ a b. a.number ≢ b.number) c xs (λ k d h same.
    let a = get_or xs k d in
    All-contains (λ b. b.number ≢ c.number) (by_deadline xs) a others (contains_ordered a xs (Contains-get_or xs k d h)) (sym same)) numbered

-- the condition of `put`
pub waits_absent : (c : Candidate) (xs ready_rest : List Candidate) → All (λ a. a.number ≢ c.number) (by_deadline (xs ++ ready_rest)) → has_candidate c ready_rest ≡ false
waits_absent c xs ready_rest others =
    absent_number c ready_rest (λ k d h.
    let a = get_or ready_rest k d in
    All-contains (λ b. b.number ≢ c.number) (by_deadline (xs ++ ready_rest)) a others (contains_ordered a (xs ++ ready_rest) (Contains-append_right xs ready_rest a (Contains-get_or ready_rest k d h))))

pub waits_few : (stays : List (Option Candidate)) (ready_rest : List Candidate) → length ready_rest ≤ length (all_ready stays ready_rest)
waits_few stays ready_rest = let all = length_ordered (all_held stays ++ ready_rest) in let sum = length-append (all_held stays) ready_rest in omega (arith, all, sum)

pub entered_all : (c : Candidate) (stays : List (Option Candidate)) (ready_rest : List Candidate) → IsNumbered (all_held stays ++ ready_rest) → All (λ a. a.number ≢ c.number) (all_ready stays ready_rest) → all_ready stays (with_candidate c ready_rest) ≡ with_candidate c (all_ready stays ready_rest)
entered_all c stays ready_rest numbered others =
    sym (ordered_same (c ∷ (all_held stays ++ ready_rest)) (all_held stays ++ with_candidate c ready_rest) (more_numbered c (all_held stays ++ ready_rest) numbered others) (came_in c (all_held stays) ready_rest))

pub entered_is : (c : Candidate) (stays : List (Option Candidate)) (ready_rest : List Candidate) (places : Places) → IsReady stays ready_rest places → All (λ a. a.number ≢ c.number) (all_ready stays ready_rest) → IsAtHome places c → IsReady stays (with_candidate c ready_rest) places
entered_is c stays ready_rest places is others home = record {
  len = is.len;
  numbered = numbered_same (c ∷ (all_held stays ++ ready_rest)) (all_held stays ++ with_candidate c ready_rest) (came_in c (all_held stays) ready_rest) (more_numbered c (all_held stays ++ ready_rest) is.numbered others);
  on = is.on;
  homed = All-with (IsAtHome places) c ready_rest home is.homed;
}

-- ONE IS THE SAME AS ANOTHER
without_same : (d c : Candidate) (xs : List Candidate) → is_same d c ≡ true → without_candidate c xs ≡ without_candidate d xs
without_same d c xs same =
    let e = same_logs d c same in
    ap (λ (k : ℕ). filter (λ a. not (eqb a.deadline k && eqb a.number c.number)) xs) (sym e.0) ∙ ap (λ (k : ℕ). filter (λ a. not (eqb a.deadline d.deadline && eqb a.number k)) xs) (sym e.1)

has_same : (d c : Candidate) (xs : List Candidate) → is_same d c ≡ true → has_candidate c xs ≡ has_candidate d xs
has_same d c xs same =
    let e = same_logs d c same in
    ap (λ (k : ℕ). list_any (λ a. eqb a.deadline k && eqb a.number c.number) xs) (sym e.0) ∙ ap (λ (k : ℕ). list_any (λ a. eqb a.deadline d.deadline && eqb a.number k) xs) (sym e.1)

-- ONE STAYS NO MORE
there_is : (c : Candidate) (o : Option Candidate) → is_there c o ≡ true → (d : Candidate) × (o ≡ Some d) × (is_same d c ≡ true)
there_is c None e = absurd cc
there_is c (Some d) e = (d, refl, e)

pub there_some : (c : Candidate) (o : Option Candidate) → is_there c o ≡ true → is_some o ≡ true
there_some c None e = absurd cc
there_some c (Some d) e = refl

pub off_left : (c : Candidate) (stays : List (Option Candidate)) (ready_rest : List Candidate) (cpu : ℕ) → IsNumbered (all_held stays ++ ready_rest) → is_there c (get_or stays cpu None) ≡ true → HasLeftReady c stays ready_rest (set stays cpu None) ready_rest true
off_left c stays ready_rest cpu numbered there =
    let t = there_is c (get_or stays cpu None) there in
    let d = t.0 in
    let now = set stays cpu None in
    let rest = all_held now ++ ready_rest in
    let less : IsPermutation (all_held stays ++ ready_rest) (d ∷ rest) = IsPermutation-append_left ready_rest (all_held stays) (d ∷ all_held now) (held_less stays cpu d t.1) in
    let whole : all_ready stays ready_rest ≡ by_deadline (d ∷ rest) = ordered_same (all_held stays ++ ready_rest) (d ∷ rest) numbered less in
    let apart : IsNumbered (d ∷ rest) = numbered_same (all_held stays ++ ready_rest) (d ∷ rest) less numbered in
    record {
      all = sym (ap (λ (xs : List Candidate). without_candidate c xs) whole ∙ without_same d c (by_deadline (d ∷ rest)) t.2 ∙ ordered_remove d [] rest apart);
      there = sym (ap (λ (xs : List Candidate). has_candidate c xs) whole ∙ has_same d c (by_deadline (d ∷ rest)) t.2 ∙ ordered_there d [] rest);
      is = λ places is. record {
        len = length-set stays cpu None ∙ is.len;
        numbered = numbered_rest d rest apart;
        on = on_less stays places cpu is.on;
        homed = is.homed;
      };
    }

-- ONE WAITS NO MORE
held_absent : (c w : Candidate) (stays : List (Option Candidate)) (ready_rest : List Candidate) → IsNumbered (all_held stays ++ ready_rest) → Contains ready_rest w → is_same w c ≡ true → has_candidate c (all_held stays) ≡ false
held_absent c w stays ready_rest numbered at same =
    absent_number c (all_held stays) (λ k d h number.
    let e = same_logs w c same in
    numbers_apart (all_held stays) ready_rest (get_or (all_held stays) k d) w numbered (Contains-get_or (all_held stays) k d h) at (number ∙ sym e.1))

pub wait_left : (c w : Candidate) (stays : List (Option Candidate)) (ready_rest : List Candidate) → IsNumbered (all_held stays ++ ready_rest) → Contains ready_rest w → is_same w c ≡ true → has_candidate c ready_rest ≡ true → HasLeftReady c stays ready_rest stays (without_candidate c ready_rest) true
wait_left c w stays ready_rest numbered at same there =
    let absent = held_absent c w stays ready_rest numbered at same in
    let parts : without_candidate c (all_held stays ++ ready_rest) ≡ all_held stays ++ without_candidate c ready_rest = filter-append (λ a. not (is_same a c)) (all_held stays) ready_rest
    ∙ ap (λ (xs : List Candidate). xs ++ without_candidate c ready_rest) (without_absent c (all_held stays) absent) in
    record {
      all = sym (ordered_without c (all_held stays ++ ready_rest) numbered ∙ ap (λ (xs : List Candidate). by_deadline xs) parts);
      there = sym (has_ordered c (all_held stays ++ ready_rest) ∙ list_any-append (λ a. is_same a c) (all_held stays) ready_rest ∙ ap (λ (b : Bool). has_candidate c (all_held stays) || b) there ∙ or_right (has_candidate c (all_held stays)) true refl);
      is = λ places is. record {
        len = is.len;
        numbered = subst (λ (xs : List Candidate). IsNumbered xs) parts (AllPairs-filter (λ a b. a.number ≢ b.number) (λ a. not (is_same a c)) (all_held stays ++ ready_rest) numbered);
        on = is.on;
        homed = All-filter (λ a. not (is_same a c)) (IsAtHome places) ready_rest is.homed;
      };
    }

-- IT IS NOT THERE
there_not : (c : Candidate) (o : Option Candidate) (d : Candidate) → is_there c o ≡ false → o ≡ Some d → is_same d c ≡ false
there_not c o d none at = ap (λ (p : Option Candidate). is_there c p) (sym at) ∙ none

pub none_left : (c : Candidate) (stays : List (Option Candidate)) (ready_rest : List Candidate) → has_candidate c ready_rest ≡ false → ((cpu : ℕ) → is_there c (get_or stays cpu None) ≡ false) → HasLeftReady c stays ready_rest stays ready_rest false
none_left c stays ready_rest absent none =
    let held_none : has_candidate c (all_held stays) ≡ false = list_any_none (λ a. is_same a c) (all_held stays) (All_held (λ a. is_same a c ≡ false) stays (λ cpu d at. there_not c (get_or stays cpu None) d (none cpu) at)) in
    let all : has_candidate c (all_ready stays ready_rest) ≡ false = has_ordered c (all_held stays ++ ready_rest) ∙ list_any-append (λ a. is_same a c) (all_held stays) ready_rest ∙ ap (λ (b : Bool). b || has_candidate c ready_rest) held_none ∙ absent in
    record {
      all = sym (without_absent c (all_ready stays ready_rest) all);
      there = sym all;
      is = λ places is. is;
    }
