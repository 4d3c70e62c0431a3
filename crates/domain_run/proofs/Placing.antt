-- What is placed is ready and has budget left.
use Rattle.std.proofs.Common.{◌≡◌, ℕ, ◌<◌, Bool, true, false, cond, eqb, ltb, ◌||◌, ◌&&◌, Option, Some, None, List, [], ◌∷◌, length, map, get_or, refl, sym, ap, ◌∙◌, subst, arith, inl, inr, eq-eqb}
use Rattle.std.specs.Prelude.{All, Any, AllPairs, IsTrue, filter, position, pos, ◌<ℤ◌, ◌≢◌}
use Rattle.std.specs.List.{list_any, position_or_len}
use Rattle.std.proofs.lemmas.Bool.{or_parts, cases_lt, eqb-true, lt-ltb, ltb-true}
use Rattle.std.proofs.lemmas.List.{get_or-map, get_or_past, get_or_default, length-map}
use Rattle.std.proofs.lemmas.List.Folds.{Any-from_list_any}
use Rattle.std.proofs.lemmas.List.Sums.{position_or_len_is, passes_at_first}
use Rattle.domain_run.specs.declared.task.Task.{Task}
use Rattle.edf_pick.specs.Places.{Places, is_task, is_on_cpu}
use Rattle.domain_run.specs.Conditions.{is_ready}
use Rattle.domain_run.specs.Parts.{with_last_cpu, with_cpu}
use Rattle.domain_run.specs.Domain.{Domain}
use Rattle.domain_run.specs.Tick.{candidate_of, candidates, with_places}
use Rattle.domain_run.specs.Sound.{occupant, HasNoTaskTwice, IsSound, IsPlacement}
use Rattle.domain_run.proofs.OpenCharging.{is_candidate, IsCharging}

-- a listed task that is ready, of this number
abbrev is_ready_number : ℕ → Task → Bool
is_ready_number n t = eqb t.number n && is_ready t.condition

and_true : (a b : Bool) → b ≡ true → (a && b) ≡ a
and_true true b e = e
and_true false b e = refl

or_right : (a b : Bool) → b ≡ true → (a || b) ≡ true
or_right true b e = refl
or_right false b e = e

pub ready_in : (n : ℕ) (tasks : List Task) → is_candidate (candidates tasks) n ≡ true → list_any (is_ready_number n) tasks ≡ true
ready_in n [] h = h
ready_in n (t ∷ tasks) h =
    elim (is_ready t.condition) as (λ b. is_candidate (map candidate_of (cond b (t ∷ filter (λ t. is_ready t.condition) tasks) (filter (λ t. is_ready t.condition) tasks))) n ≡ true → ((eqb t.number n && b) || list_any (is_ready_number n) tasks) ≡ true) [
      | true ↦ λ a. elim (eqb t.number n) as (λ b. (b || is_candidate (candidates tasks) n) ≡ true → ((b && true) || list_any (is_ready_number n) tasks) ≡ true) [ true ↦ λ x. refl | false ↦ λ x. ready_in n tasks x ] a
      | false ↦ λ a. or_right (eqb t.number n && false) (list_any (is_ready_number n) tasks) (ready_in n tasks a)
    ] h

pub task_there : (n : ℕ) (o : Option ℕ) → is_task n o ≡ true → o ≡ Some n
task_there n None e = absurd cc
task_there n (Some m) e = ap (λ x. Some x) (eqb-true m n e)

pub there : (places : Places) (cpu n : ℕ) → occupant places cpu ≡ Some n → cpu < length places
there places cpu n e =
    elim (cases_lt cpu (length places)) [
      | inl h ↦ h
      | inr h ↦ let no : None ≡ Some n = sym (get_or_past places cpu None h) ∙ e in absurd cc
    ]

task_is : (n : ℕ) (o : Option ℕ) → o ≡ Some n → is_task n o ≡ true
task_is n o e = ap (is_task n) e ∙ eq-eqb n n refl

pub position_at : (places : Places) (cpu n : ℕ) → HasNoTaskTwice places → occupant places cpu ≡ Some n → position (is_task n) places ≡ Some cpu
position_at places cpu n apart e =
    let within = there places cpu n e in
    let before : (k : ℕ) → k < cpu → is_task n (get_or places k None) ≡ false = λ k less.
    elim (is_task n (occupant places k)) as (λ b. is_task n (occupant places k) ≡ b → b ≡ false) [
      | true ↦ λ h. let same : k ≡ cpu = apart.once k cpu n (task_there n (occupant places k) h) e in absurd (omega arith)
      | false ↦ λ h. refl
    ] refl in
    rw (position_or_len_is (is_task n) places cpu None (omega arith) before (λ h. task_is n (occupant places cpu) e), lt-ltb cpu (length places) within) refl

homed_condition : (o : Option ℕ) (t : Task) → (with_cpu o t).condition ≡ t.condition
homed_condition None t = refl
homed_condition (Some cpu) t = refl

homed_server : (o : Option ℕ) (t : Task) → (with_cpu o t).server ≡ t.server
homed_server None t = refl
homed_server (Some cpu) t = refl

pub homed_number : (o : Option ℕ) (t : Task) → (with_cpu o t).number ≡ t.number
homed_number None t = refl
homed_number (Some cpu) t = refl

pub homed_params : (o : Option ℕ) (t : Task) → (with_cpu o t).params ≡ t.params
homed_params None t = refl
homed_params (Some cpu) t = refl

some_below : (b : Bool) (k cpu : ℕ) → cond b (Some k) None ≡ Some cpu → (b ≡ true) × (k ≡ cpu)
some_below true k cpu e = (refl, cc)
some_below false k cpu e = absurd cc

-- a placed task's CPU is one of the domain's
pub homed_cpu : (cpus : ℕ) (o : Option ℕ) (t : Task) → ((cpu : ℕ) → o ≡ Some cpu → cpu < cpus) → t.cpu < cpus → (with_cpu o t).cpu < cpus
homed_cpu cpus None t within h = h
homed_cpu cpus (Some cpu) t within h = within cpu refl

pub position_within : (n : ℕ) (places : Places) (cpu : ℕ) → position (is_task n) places ≡ Some cpu → cpu < length places
position_within n places cpu e =
    let k = position_or_len (is_task n) places in
    let s = some_below (ltb k (length places)) k cpu e in
    subst (λ x. x < length places) s.1 (ltb-true k (length places) s.0)

pub found_at : (n : ℕ) (places : Places) (cpu : ℕ) → position (is_task n) places ≡ Some cpu → is_task n (occupant places cpu) ≡ true
found_at n places cpu e =
    let k = position_or_len (is_task n) places in
    let s = some_below (ltb k (length places)) k cpu e in
    subst (λ x. is_task n (occupant places x) ≡ true) s.1 (passes_at_first (is_task n) places None (ltb-true k (length places) s.0))

-- what comes with nothing true is not true
pub not_true : (a b : Bool) → (a ≡ true → b ≡ true) → b ≡ false → a ≡ false
not_true true b h e = let no : true ≡ false = sym (h refl) ∙ e in absurd cc
not_true false b h e = refl

-- a task that runs nowhere has no place
past_all : (n : ℕ) (places : Places) → is_on_cpu n places ≡ false → position_or_len (is_task n) places ≡ length places
past_all n [] e = refl
past_all n (o ∷ places) e =
    let none = or_parts (is_task n o) (is_on_cpu n places) e in
    rw none.0 (omega (arith, past_all n places none.1))

pub homed_nowhere : (places : Places) (t : Task) → is_on_cpu t.number places ≡ false → with_last_cpu places t ≡ t
homed_nowhere places t e =
    let at = position (is_task t.number) places in
    elim at as (λ o. at ≡ o → with_cpu o t ≡ t) [
      | None ↦ λ h. refl
      | Some cpu ↦ λ h.
          let k = position_or_len (is_task t.number) places in
          absurd (omega (arith, (some_below (ltb k (length places)) k cpu h).1, position_within t.number places cpu h, past_all t.number places e))
    ] refl

and_both : (a b : Bool) → (a && b) ≡ true → (a ≡ true) × (b ≡ true)
and_both true b e = (refl, e)
and_both false b e = absurd cc

placed_one : (time : ℕ) (tasks : List Task) (places : Places) (cpu n : ℕ) → All (IsSound time) tasks → position (is_task n) places ≡ Some cpu → Any (λ t. is_ready_number n t ≡ true) tasks
    → Any (λ t. (t.number ≡ n) × (t.cpu ≡ cpu) × IsTrue (is_ready t.condition) × (pos 0 <ℤ t.server.left)) (map (with_last_cpu places) tasks)
placed_one time tasks places cpu n sound at_cpu (k, t, within, same, test) =
    let both = and_both (eqb t.number n) (is_ready t.condition) test in
    let number : t.number ≡ n = eqb-true t.number n both.0 in
    let at : position (is_task t.number) places ≡ Some cpu = ap (λ m. position (is_task m) places) number ∙ at_cpu in
    let o = position (is_task t.number) places in
    let homed_there : (with_last_cpu places t).cpu ≡ cpu = ap (λ x. (with_cpu x t).cpu) at in
    let is_sound : IsSound time t = subst (IsSound time) same (sound k t within) in
    let left : pos 0 <ℤ t.server.left = is_sound.lifted both.1 in
    let e : length (map (with_last_cpu places) tasks) ≡ length tasks = simp length-map in (
      k,
      with_last_cpu places t,
      omega arith,
      get_or-map (with_last_cpu places) tasks k t (with_last_cpu places t) within ∙ ap (with_last_cpu places) same,
      (homed_number o t ∙ number, homed_there, ap is_ready (homed_condition o t) ∙ both.1, subst (λ s. pos 0 <ℤ s.left) (sym (homed_server o t)) left),
    )

-- the placement of a list of sound tasks
pub placed_tasks : (time cpus : ℕ) (d : Domain) (tasks : List Task) (places : Places) → All (IsSound time) tasks → IsCharging (candidates tasks) cpus places → IsPlacement (with_places d tasks places)
placed_tasks time cpus d tasks places sound is = record {
  running = λ cpu n e. placed_one time tasks places cpu n sound (position_at places cpu n is.apart e) (Any-from_list_any (is_ready_number n) tasks (ready_in n tasks (is.candidates.each cpu n e)));
  apart = is.apart;
}

pub runs_at : (n : ℕ) (places : Places) → Any (λ o. is_task n o ≡ true) places → (cpu : ℕ) × (occupant places cpu ≡ Some n)
runs_at n places (k, o, within, same, test) = (k, get_or_default places k None o within ∙ same ∙ task_there n o test)

pub one_index : (tasks : List Task) (i j : ℕ) (t u : Task) → AllPairs (λ a b. a.number ≢ b.number) tasks → i < length tasks → j < length tasks → (get_or tasks i t).number ≡ (get_or tasks j t).number → i ≡ j
one_index tasks i j t u numbered h k e =
    elim (cases_lt i j) [
      | inl less ↦ absurd (numbered i j t less k e)
      | inr at_least ↦ elim (cases_lt j i) [
        | inl more ↦ absurd (numbered j i t more h (sym e))
        | inr at_most ↦ omega arith
      ]
    ]

ready_one : (tasks : List Task) (i n : ℕ) (t : Task) → AllPairs (λ a b. a.number ≢ b.number) tasks → i < length tasks → (get_or tasks i t).number ≡ n
    → Any (λ t. (t.number ≡ n) × IsTrue (is_ready t.condition)) tasks → IsTrue (is_ready (get_or tasks i t).condition)
ready_one tasks i n t numbered h e (j, u, within, same, facts) =
    let there_is : get_or tasks j t ≡ u = get_or_default tasks j t u within ∙ same in
    let i_is : i ≡ j = one_index tasks i j t u numbered h within (e ∙ sym (ap (λ x. x.number) there_is ∙ facts.0)) in
    ap (λ (x : Task). is_ready x.condition) (ap (λ k. get_or tasks k t) i_is ∙ there_is) ∙ facts.1

-- the task that runs on a CPU is ready
pub running_ready : (d : Domain) → AllPairs (λ a b. a.number ≢ b.number) d.tasks → IsPlacement d → All (λ t. IsTrue (is_on_cpu t.number d.curr) → IsTrue (is_ready t.condition)) d.tasks
running_ready d numbered is i x within h =
    let n = (get_or d.tasks i x).number in
    let at = runs_at n d.curr (Any-from_list_any (is_task n) d.curr h) in
    ready_one d.tasks i n x numbered within refl (ready_there (is.running at.0 n at.1))
  where
    ready_there : {n cpu : ℕ} → Any (λ t. (t.number ≡ n) × (t.cpu ≡ cpu) × IsTrue (is_ready t.condition) × (pos 0 <ℤ t.server.left)) d.tasks → Any (λ t. (t.number ≡ n) × IsTrue (is_ready t.condition)) d.tasks
    ready_there (j, u, inside, same, facts) = (j, u, inside, same, (facts.0, facts.2))
