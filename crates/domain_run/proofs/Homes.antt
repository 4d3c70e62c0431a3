-- The task that runs on a CPU belongs to it: the tasks, and the ready ones as the choice sees them.
use Rattle.std.proofs.Common.{◌≡◌, ◌≢◌, ℕ, suc, true, false, cond, ◌||◌, Option, Some, None, List, [], ◌∷◌, ◌++◌, get_or, map, refl, sym, ap, subst, ◌∙◌}
use Rattle.std.specs.Prelude.{All, position, option_map}
use Rattle.std.proofs.lemmas.List.Elements.{All-map, All-weaker, All-cons, All-head, All-tail, Contains-get_or}
use Rattle.edf_pick.specs.declared.candidate.Candidate.{Candidate}
use Rattle.edf_pick.specs.Changes.{is_home}
use Rattle.edf_pick.specs.Order.{by_deadline}
use Rattle.edf_pick.specs.Places.{Places, is_task, is_on_cpu}
use Rattle.edf_pick.specs.Schedule.{IsAtHome}
use Rattle.edf_pick.proofs.CallerLemmas.{IsNumbered, numbered_first, numbered_rest, contains_from_ordered}
use Rattle.domain_run.specs.declared.task.Task.{Task}
use Rattle.domain_run.specs.Parts.{with_cpu, with_last_cpu}
use Rattle.domain_run.specs.Sound.{occupant}
use Rattle.domain_run.specs.Tick.{candidate_of}
use Rattle.domain_run.specs.private.RunQueue.{AreHomed}
use Rattle.domain_run.proofs.Placing.{found_at}
use Rattle.domain_run.proofs.KeptRunning.{first_at, first_is}

-- the same number and the same CPU
at_home : (o : Option ℕ) (t u : Task) → u.cpu ≡ t.cpu → with_cpu o t ≡ t → with_cpu o u ≡ u
at_home None t u same h = refl
at_home (Some cpu) t u same h = ap (λ (n : ℕ). record u { cpu = n }) (ap (λ (x : Task). x.cpu) h ∙ sym same)

pub still_homed : (places : Places) (t u : Task) → u.number ≡ t.number → u.cpu ≡ t.cpu → with_last_cpu places t ≡ t → with_last_cpu places u ≡ u
still_homed places t u number cpu h = at_home (position (is_task u.number) places) t u cpu (ap (λ n. with_cpu (position (is_task n) places) t) number ∙ h)

pub homed_map : (places : Places) (f : Task → Task) (tasks : List Task) → ((t : Task) → (f t).number ≡ t.number) → ((t : Task) → (f t).cpu ≡ t.cpu) → AreHomed places tasks → AreHomed places (map f tasks)
homed_map places f tasks number cpu all = All-map (λ t. with_last_cpu places t ≡ t) f tasks (All-weaker (λ t. with_last_cpu places t ≡ t) (λ t. with_last_cpu places (f t) ≡ f t) (λ t h. still_homed places t (f t) (number t) (cpu t) h) tasks all)

-- who has no place runs nowhere
some_more : (o : Option ℕ) → option_map suc o ≡ None → o ≡ None
some_more None e = refl
some_more (Some k) e = absurd cc

nowhere : (n : ℕ) (places : Places) → first_at (is_task n) places ≡ None → is_on_cpu n places ≡ false
nowhere n [] e = refl
nowhere n (o ∷ places) e =
    elim (is_task n o) as (λ b. cond b (Some 0) (option_map suc (first_at (is_task n) places)) ≡ None → (b || is_on_cpu n places) ≡ false) [
      | true ↦ λ h. absurd cc
      | false ↦ λ h. nowhere n places (some_more (first_at (is_task n) places) h)
    ] e

-- a task that belongs to the CPU on which it runs is at home as the choice sees it
pub is_at_home : (places : Places) (t : Task) → with_last_cpu places t ≡ t → IsAtHome places (candidate_of t)
is_at_home places t homed on_one = by_position (position (is_task t.number) places) refl
  where
    by_position : (o : Option ℕ) → position (is_task t.number) places ≡ o → is_home places (candidate_of t) ≡ true
    by_position None e = let no : true ≡ false = sym on_one ∙ nowhere t.number places (sym (first_is (is_task t.number) places) ∙ e) in absurd cc
    by_position (Some cpu) e =
        let same : cpu ≡ t.cpu = ap (λ (x : Task). x.cpu) (sym (ap (λ o. with_cpu o t) e) ∙ homed) in
        subst (λ (k : ℕ). is_task t.number (occupant places k) ≡ true) same (found_at t.number places cpu e)

-- the others have other numbers
all_middle : (P : Candidate → Type 0) (xs : List Candidate) (c : Candidate) (ys : List Candidate) → All P (xs ++ c ∷ ys) → P c
all_middle P [] c ys all = All-head P c ys all
all_middle P (x ∷ xs) c ys all = all_middle P xs c ys (All-tail P x (xs ++ c ∷ ys) all)

others_of : (c : Candidate) (xs ys : List Candidate) → IsNumbered (xs ++ c ∷ ys) → All (λ a. a.number ≢ c.number) (xs ++ ys)
others_of c [] ys numbered = All-weaker (λ b. c.number ≢ b.number) (λ a. a.number ≢ c.number) (λ b h e. h (sym e)) ys (numbered_first c ys numbered)
others_of c (x ∷ xs) ys numbered =
    All-cons (λ a. a.number ≢ c.number) x (xs ++ ys)
    (all_middle (λ b. x.number ≢ b.number) xs c ys (numbered_first x (xs ++ c ∷ ys) numbered))
    (others_of c xs ys (numbered_rest x (xs ++ c ∷ ys) numbered))

pub ordered_others : (c : Candidate) (xs ys : List Candidate) → IsNumbered (xs ++ c ∷ ys) → All (λ a. a.number ≢ c.number) (by_deadline (xs ++ ys))
ordered_others c xs ys numbered k d h =
    let a = get_or (by_deadline (xs ++ ys)) k d in
    let at = contains_from_ordered a (xs ++ ys) (Contains-get_or (by_deadline (xs ++ ys)) k d h) in
    subst (λ (x : Candidate). x.number ≢ c.number) at.2 (others_of c xs ys numbered at.0 a at.1)
