-- Parts 4 and 5, by the CPUs that a choice gave to another one.
use Rattle.std.proofs.Common.{◌≡◌, ℕ, zero, suc, ◌+◌, ◌<◌, Bool, true, false, cond, eqb, Option, Some, None, List, [], ◌∷◌, length, get_or, map, refl, sym, ap, ◌∙◌, arith, inl, inr, eq-eqb}
use Rattle.std.specs.Prelude.{All, find, position}
use Rattle.std.proofs.lemmas.Bool.{cases_eq, ne_eqb}
use Rattle.std.proofs.lemmas.List.Elements.{All-cons, All-nil}
use Rattle.edf_pick.specs.declared.candidate.Candidate.{Candidate}
use Rattle.edf_pick.specs.declared.moves.Moved.{Moved}
use Rattle.edf_pick.specs.Changes.{home_on, with_home}
use Rattle.edf_pick.specs.Moves.{moved_from, same_occupant}
use Rattle.edf_pick.specs.Places.{Places, AreSingle, is_task}
use Rattle.edf_pick.specs.Schedule.{IsAtHome, homed_on, homed_by as homed_all}
use Rattle.edf_pick.proofs.CallerLemmas.{same_is, all_homes}
use Rattle.domain_run.specs.declared.task.Task.{Task}
use Rattle.domain_run.specs.declared.task.Condition.{Condition}
use Rattle.domain_run.specs.Switch.{Switch}
use Rattle.domain_run.specs.Parts.{with_cpu, with_last_cpu}
use Rattle.domain_run.specs.Sound.{occupant}
use Rattle.domain_run.specs.Switches.{left_by, prev_state_of, switches_from}
use Rattle.domain_run.specs.Tick.{candidate_of}
use Rattle.domain_run.specs.private.Choosing.{AreWithin, task_homed_by, switch_made}
use Rattle.domain_run.specs.private.TaskTable.{homed_here}
use Rattle.domain_run.specs.private.RunQueue.{AreHomed}
use Rattle.domain_run.proofs.Homes.{is_at_home}
use Rattle.domain_run.proofs.Homing.{homed_keeps}
use Rattle.domain_run.proofs.Jumping.{map_alike}

-- ---- the state in which an occupant leaves does not depend on where the tasks belong

condition_at : (o : Option ℕ) (t : Task) → (with_cpu o t).condition ≡ t.condition
condition_at None t = refl
condition_at (Some cpu) t = refl

left_alike : (f : Task → Task) → ((t : Task) → (f t).number ≡ t.number) → ((t : Task) → (f t).condition ≡ t.condition) → (n : ℕ) (tasks : List Task) → left_by (find (λ t. eqb t.number n) (map f tasks)) ≡ left_by (find (λ t. eqb t.number n) tasks)
left_alike f number condition n [] = refl
left_alike f number condition n (t ∷ tasks) =
    let rest = map f tasks in
    let here : (b : Bool) → left_by (cond b (Some (f t)) (find (λ t. eqb t.number n) rest)) ≡ left_by (cond b (Some t) (find (λ t. eqb t.number n) tasks)) =
    λ b. elim b as (λ b. left_by (cond b (Some (f t)) (find (λ t. eqb t.number n) rest)) ≡ left_by (cond b (Some t) (find (λ t. eqb t.number n) tasks))) [
      | true ↦ ap (λ (c : Condition). left_by (Some (record t { condition = c }))) (condition t)
      | false ↦ left_alike f number condition n tasks
    ] in
    ap (λ m. left_by (cond (eqb m n) (Some (f t)) (find (λ t. eqb t.number n) rest))) (number t) ∙ here (eqb t.number n)

pub state_alike : (f : Task → Task) → ((t : Task) → (f t).number ≡ t.number) → ((t : Task) → (f t).condition ≡ t.condition) → (tasks : List Task) (o : Option ℕ) → prev_state_of (map f tasks) o ≡ prev_state_of tasks o
state_alike f number condition tasks None = refl
state_alike f number condition tasks (Some n) = left_alike f number condition n tasks

pub state_homed : (places : Places) (first tasks : List Task) (o : Option ℕ) → tasks ≡ map (with_last_cpu places) first → prev_state_of tasks o ≡ prev_state_of first o
state_homed places first tasks o is =
    ap (λ (ts : List Task). prev_state_of ts o) is
    ∙ state_alike (with_last_cpu places) (homed_keeps places) (λ t. condition_at (position (is_task t.number) places) t) first o

-- ---- THE SWITCHES

pub switched : (time : ℕ) (first tasks : List Task) (places : Places) → ((o : Option ℕ) → prev_state_of tasks o ≡ prev_state_of first o)
    → (k : ℕ) (before after : Places) → ((i : ℕ) → get_or after i None ≡ get_or places (k + i) None)
    → map (switch_made time tasks places) (moved_from k before after) ≡ switches_from time first k before after
switched time first tasks places same k [] after at = refl
switched time first tasks places same k (b ∷ before) [] at = refl
switched time first tasks places same k (b ∷ before) (a ∷ after) at =
    let f = switch_made time tasks places in
    let m : Moved = record { cpu = k; before = b } in
    let s : Switch = record { time = time; prev = b; next = a; cpu = k; state = prev_state_of first b } in
    let rest = moved_from (k + 1) before after in
    let more = switches_from time first (k + 1) before after in
    let back : map f rest ≡ more = switched time first tasks places same (k + 1) before after (λ i. at (suc i) ∙ ap (λ (n : ℕ). get_or places n None) (shift i)) in
    let here : occupant places k ≡ a = sym (at zero ∙ ap (λ (n : ℕ). get_or places n None) none) in
    let one : f m ≡ s = λ i. record { time = time; prev = b; next = here i; cpu = k; state = same b i } in
    elim (same_occupant b a) as (λ t. map f (cond t rest (m ∷ rest)) ≡ cond t more (s ∷ more)) [ true ↦ back | false ↦ (λ i. one i ∷ back i) ]
  where
    shift : (i : ℕ) → k + suc i ≡ (k + 1) + i
    shift i = omega arith

    none : k + zero ≡ k
    none = omega arith

-- their CPUs
pub moved_within : (k : ℕ) (before after : Places) → AreWithin (k + length before) (moved_from k before after)
moved_within k [] after = All-nil _
moved_within k (b ∷ before) [] = All-nil _
moved_within k (b ∷ before) (a ∷ after) =
    let P : Moved → Type 0 = λ m. m.cpu < k + length (b ∷ before) in
    let m : Moved = record { cpu = k; before = b } in
    let rest = moved_from (k + 1) before after in
    let back : All P rest = λ i d h. let less = moved_within (k + 1) before after i d h in omega (arith, less) in
    elim (same_occupant b a) as (λ t. All P (cond t rest (m ∷ rest))) [ true ↦ back | false ↦ All-cons P m rest (omega arith) back ]

-- ---- THE HOMES, as those of the ready tasks

same_number : (m n : ℕ) → eqb m n ≡ eqb n m
same_number m n = elim (cases_eq m n) [
  | inl same ↦ eq-eqb m n same ∙ sym (eq-eqb n m (sym same))
  | inr other ↦ ne_eqb m n other ∙ sym (ne_eqb n m (λ e. other (sym e)))
]

here_is : (o : Option ℕ) (cpu : ℕ) (t : Task) → homed_here o cpu t ≡ record t { cpu = (cond (is_task t.number o) (record (candidate_of t) { home = cpu }) (candidate_of t)).home }
here_is None cpu t = refl
here_is (Some n) cpu t =
    ap (λ b. cond b (record t { cpu = cpu }) t) (same_number t.number n)
    ∙ elim (eqb n t.number) as (λ b. cond b (record t { cpu = cpu }) t ≡ record t { cpu = (cond b (record (candidate_of t) { home = cpu }) (candidate_of t)).home }) [ true ↦ refl | false ↦ refl ]

on_is : (places : Places) (cpu : ℕ) (c : Candidate) → record c { home = (homed_on places cpu c).home } ≡ homed_on places cpu c
on_is places cpu c = elim (is_task c.number (occupant places cpu)) as (λ b. record c { home = (cond b (record c { home = cpu }) c).home } ≡ cond b (record c { home = cpu }) c) [ true ↦ refl | false ↦ refl ]

all_is : (places : Places) (moves : List Moved) (t : Task) → task_homed_by places moves t ≡ record t { cpu = (homed_all places moves (candidate_of t)).home }
all_is places [] t = refl
all_is places (m ∷ moves) t =
    let h : ℕ = (homed_on places m.cpu (candidate_of t)).home in
    ap (task_homed_by places moves) (here_is (occupant places m.cpu) m.cpu t)
    ∙ all_is places moves (record t { cpu = h })
    ∙ ap (λ (c : Candidate). record t { cpu = (homed_all places moves c).home }) (on_is places m.cpu (candidate_of t))

last_is : (places : Places) (t : Task) → with_last_cpu places t ≡ record t { cpu = (with_home places (candidate_of t)).home }
last_is places t = elim (position (is_task t.number) places) as (λ o. with_cpu o t ≡ record t { cpu = (home_on (candidate_of t) o).home }) [ None ↦ refl | Some cpu ↦ refl ]

-- each task belongs to its CPU where those of the CPUs that another one has do
pub homed_moves : (before after : Places) (tasks : List Task) → length after ≡ length before → AreSingle before → AreSingle after → AreHomed before tasks → map (task_homed_by after (moved_from 0 before after)) tasks ≡ map (with_last_cpu after) tasks
homed_moves before after tasks len was single homes = map_alike (task_homed_by after (moved_from 0 before after)) (with_last_cpu after) tasks (λ k d h. one (get_or tasks k d) (homes k d h))
  where
    one : (t : Task) → with_last_cpu before t ≡ t → task_homed_by after (moved_from 0 before after) t ≡ with_last_cpu after t
    one t home =
        let c = candidate_of t in
        let alone : All (IsAtHome before) (c ∷ []) = All-cons (IsAtHome before) c [] (is_at_home before t home) (All-nil _) in
        let is : homed_all after (moved_from 0 before after) c ≡ with_home after c = ap (λ (xs : List Candidate). get_or xs 0 c) (all_homes before after len was single (c ∷ []) alone) in
        all_is after (moved_from 0 before after) t ∙ ap (λ (x : Candidate). record t { cpu = x.home }) is ∙ sym (last_is after t)

-- no CPU has another occupant
pub none_moved : (k : ℕ) (before after : Places) → length after ≡ length before → moved_from k before after ≡ [] → after ≡ before
none_moved k [] [] len none = refl
none_moved k [] (a ∷ after) len none = absurd (omega (arith, len))
none_moved k (b ∷ before) [] len none = absurd (omega (arith, len))
none_moved k (b ∷ before) (a ∷ after) len none =
    let m : Moved = record { cpu = k; before = b } in
    let rest = moved_from (k + 1) before after in
    elim (same_occupant b a) as (λ t. same_occupant b a ≡ t → cond t rest (m ∷ rest) ≡ [] → a ∷ after ≡ b ∷ before) [
      | true ↦ λ same e.
          let first : a ≡ b = sym (same_is b a same) in
          let more = none_moved (k + 1) before after (omega (arith, len)) e in
          λ i. first i ∷ more i
      | false ↦ λ same e. absurd cc
    ] refl none
