-- Who starts on a CPU gets an open charge at once.
use Rattle.std.proofs.Common.{◌≡◌, ℕ, ◌<◌, Option, Some, None, List, [], ◌∷◌, length, map, get_or, Bool, cond, eqb, ◌&&◌, true, false, refl, sym, ap, ◌∙◌, subst, arith}
use Rattle.std.specs.Prelude.{◌≢◌, All, AllPairs, Any, IsTrue, IfSome, find}
use Rattle.std.proofs.lemmas.Bool.{eqb-true}
use Rattle.std.proofs.lemmas.List.{get_or-map, get_or_default, length-map}
use Rattle.std.proofs.lemmas.List.Folds.{Any-from_list_any}
use Rattle.std.proofs.lemmas.Option.{same_Some}
use Rattle.domain_run.specs.declared.task.Task.{Task}
use Rattle.due_times.specs.declared.charges.OpenCharge.{OpenCharge}
use Rattle.edf_pick.specs.declared.moves.Moved.{Moved}
use Rattle.edf_pick.specs.Places.{Places}
use Rattle.domain_run.specs.Conditions.{is_ready}
use Rattle.domain_run.specs.Parts.{with_cpu}
use Rattle.domain_run.specs.Sound.{occupant, IsSound}
use Rattle.domain_run.specs.declared.task.Condition.{Condition}
use Rattle.domain_run.specs.declared.task.Condition.TheVariants.{Ready, Throttled, Blocked, Waiting, Leaving}
use Rattle.domain_run.specs.declared.switch.PrevState.TheVariants.{Running}
use Rattle.domain_run.specs.Switch.{IsLeftIn}
use Rattle.domain_run.specs.Switches.{left_in, left_by, prev_state_of}
use Rattle.domain_run.specs.Tick.{candidates, sum_of}
use Rattle.domain_run.specs.private.Choosing.{IsHome, task_homed_by}
use Rattle.domain_run.specs.private.TaskTable.{homed_here}
use Rattle.domain_run.specs.private.Owed.{owed, MayStart, MayStartIfReady, MayStartOf}
use Rattle.domain_run.proofs.Keeping.{sum-map}
use Rattle.domain_run.proofs.Moving.{state_alike}
use Rattle.domain_run.proofs.Owed.{alike_owed}
use Rattle.domain_run.proofs.Placing.{ready_in, one_index}
use Rattle.domain_run.proofs.Runners.{contends}
use Rattle.domain_run.proofs.OpenCharging.{AreCandidates}

-- ---- A TASK THAT STARTS is as it was, but for the CPU to which it belongs

here_params : (o : Option ℕ) (cpu : ℕ) (t : Task) → (homed_here o cpu t).params ≡ t.params
here_params None cpu t = refl
here_params (Some n) cpu t = elim (eqb t.number n) as (λ b. (cond b (with_cpu (Some cpu) t) t).params ≡ t.params) [ true ↦ refl | false ↦ refl ]

here_number : (o : Option ℕ) (cpu : ℕ) (t : Task) → (homed_here o cpu t).number ≡ t.number
here_number None cpu t = refl
here_number (Some n) cpu t = elim (eqb t.number n) as (λ b. (cond b (with_cpu (Some cpu) t) t).number ≡ t.number) [ true ↦ refl | false ↦ refl ]

here_condition : (o : Option ℕ) (cpu : ℕ) (t : Task) → (homed_here o cpu t).condition ≡ t.condition
here_condition None cpu t = refl
here_condition (Some n) cpu t = elim (eqb t.number n) as (λ b. (cond b (with_cpu (Some cpu) t) t).condition ≡ t.condition) [ true ↦ refl | false ↦ refl ]

moved_number : (places : Places) (moves : List Moved) (t : Task) → (task_homed_by places moves t).number ≡ t.number
moved_number places [] t = refl
moved_number places (m ∷ moves) t = moved_number places moves (homed_here (occupant places m.cpu) m.cpu t) ∙ here_number (occupant places m.cpu) m.cpu t

moved_condition : (places : Places) (moves : List Moved) (t : Task) → (task_homed_by places moves t).condition ≡ t.condition
moved_condition places [] t = refl
moved_condition places (m ∷ moves) t = moved_condition places moves (homed_here (occupant places m.cpu) m.cpu t) ∙ here_condition (occupant places m.cpu) m.cpu t

-- the state in which an occupant leaves, logged by the tasks as they are stored
pub state_stored : (upto : ℕ) (charges : List (Option OpenCharge)) (items : List Task) (o : Option ℕ) → prev_state_of items o ≡ prev_state_of (map (owed upto charges) items) o
state_stored upto charges items o = sym (state_alike (owed upto charges) (λ t. (alike_owed upto charges t).number) (λ t. (alike_owed upto charges t).condition) items o)

-- a task leaves in another state than idle
left_as : (c : Condition) → left_in c ≢ Running
left_as Ready = λ e. cc
left_as Throttled = λ e. cc
left_as (Blocked u) = λ e. cc
left_as Waiting = λ e. cc
left_as Leaving = λ e. cc

left_as_found : (found : Option Task) → left_by found ≢ Running
left_as_found None = λ e. cc
left_as_found (Some t) = left_as t.condition

pub left_in_state : (tasks : List Task) (o : Option ℕ) → IsLeftIn (prev_state_of tasks o) o
left_in_state tasks None = refl
left_in_state tasks (Some n) = left_as_found (find (λ t. eqb t.number n) tasks)

-- where some have started, it is as before
pub state_started : (upto : ℕ) (charges : List (Option OpenCharge)) (items first : List Task) (places : Places) (moves : List Moved) (o : Option ℕ) → map (owed upto charges) items ≡ map (task_homed_by places moves) first → prev_state_of items o ≡ prev_state_of first o
state_started upto charges items first places moves o is =
    state_stored upto charges items o
    ∙ ap (λ (ts : List Task). prev_state_of ts o) is
    ∙ state_alike (task_homed_by places moves) (moved_number places moves) (moved_condition places moves) first o

here_may : (o : Option ℕ) (cpu : ℕ) (t : Task) → MayStart t → MayStart (homed_here o cpu t)
here_may None cpu t may = may
here_may (Some n) cpu t may = elim (eqb t.number n) as (λ b. MayStart (cond b (with_cpu (Some cpu) t) t)) [
  | true ↦ record { ready = may.ready; busy = may.busy; lifted = may.lifted; high = may.high }
  | false ↦ may
]

pub here_sum : (o : Option ℕ) (cpu : ℕ) (tasks : List Task) → sum_of (map (homed_here o cpu) tasks) ≡ sum_of tasks
here_sum o cpu tasks = sum-map (homed_here o cpu) (here_params o cpu) tasks

pub here_may_all : (o : Option ℕ) (cpu n : ℕ) (tasks : List Task) → MayStartOf tasks n → MayStartOf (map (homed_here o cpu) tasks) n
here_may_all o cpu n tasks may k d h number =
    let f = homed_here o cpu in
    let many : length (map f tasks) ≡ length tasks = simp length-map in
    let inside : k < length tasks = omega (arith, h, many) in
    let read = get_or-map f tasks k d d inside in
    let was : (get_or tasks k d).number ≡ n = sym (here_number o cpu (get_or tasks k d)) ∙ ap (λ (t : Task). t.number) (sym read) ∙ number in
    subst MayStart (sym read) (here_may o cpu (get_or tasks k d) (may k d inside was))

-- the task that runs on the CPU may have an open charge
pub home_may : (o : Option ℕ) (cpu p : ℕ) (tasks : List Task) → IfSome o (MayStartOf tasks) → IsHome o cpu p tasks → (d : Task) → MayStart (get_or tasks p d)
home_may None cpu p tasks may home d = let none : None ≡ Some (get_or tasks p d).number = home.is_on_cpu d in absurd cc
home_may (Some n) cpu p tasks may home d = may p d home.within (sym (same_Some n (get_or tasks p d).number (home.is_on_cpu d)))

pub here_may_some : (o : Option ℕ) (cpu : ℕ) (tasks : List Task) (x : Option ℕ) → IfSome x (MayStartOf tasks) → IfSome x (MayStartOf (map (homed_here o cpu) tasks))
here_may_some o cpu tasks None may = tt
here_may_some o cpu tasks (Some n) may = here_may_all o cpu n tasks may

-- ---- The task that runs may have an open charge: it is one of those that are ready

abbrev is_ready_number : ℕ → Task → Bool
is_ready_number n t = eqb t.number n && is_ready t.condition

both_true : (a b : Bool) → (a && b) ≡ true → (a ≡ true) × (b ≡ true)
both_true true b e = (refl, e)
both_true false b e = absurd cc

ready_number : (n : ℕ) (tasks : List Task) (i : ℕ) (d : Task) → AllPairs (λ a b. a.number ≢ b.number) tasks → i < length tasks → (get_or tasks i d).number ≡ n → Any (λ t. is_ready_number n t ≡ true) tasks → IsTrue (is_ready (get_or tasks i d).condition)
ready_number n tasks i d numbered h number (k, t, within, same, test) =
    let both = both_true (eqb t.number n) (is_ready t.condition) test in
    let there : get_or tasks k d ≡ t = get_or_default tasks k d t within ∙ same in
    let i_is : i ≡ k = one_index tasks i k d d numbered h within (number ∙ sym (ap (λ (x : Task). x.number) there ∙ eqb-true t.number n both.0)) in
    ap (λ (x : Task). is_ready x.condition) (ap (λ j. get_or tasks j d) i_is ∙ there) ∙ both.1

pub may_run_there : (places : Places) (tasks : List Task) → AreCandidates (candidates tasks) places → AllPairs (λ a b. a.number ≢ b.number) tasks → All MayStartIfReady tasks → (cpu : ℕ) → IfSome (occupant places cpu) (MayStartOf tasks)
may_run_there places tasks all numbered may cpu = by_occupant (occupant places cpu) refl
  where
    by_occupant : (o : Option ℕ) → occupant places cpu ≡ o → IfSome o (MayStartOf tasks)
    by_occupant None e = tt
    by_occupant (Some n) e = λ i d h number. may i d h (ready_number n tasks i d numbered h number (Any-from_list_any (is_ready_number n) tasks (ready_in n tasks (all.each cpu n e))))

-- a sound task may have an open charge once it is ready
pub sound_may : (time : ℕ) (tasks : List Task) → All (IsSound time) tasks → All MayStartIfReady tasks
sound_may time tasks sound k d h ready =
    let t = get_or tasks k d in
    let s = sound k d h in
    record { ready = ready; busy = s.busy (contends t.condition ready); lifted = s.lifted ready; high = s.served.high }

-- some task of a list that has any
pub a_task : (p : ℕ) (tasks : List Task) → p < length tasks → Task
a_task p [] h = absurd (omega (arith, h))
a_task p (t ∷ tasks) h = t
