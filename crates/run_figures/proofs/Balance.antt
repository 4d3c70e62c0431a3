-- A task is throttled as often as it is replenished, but for what is open: part by part of a tick.
use Rattle.std.proofs.Common.{◌≡◌, ◌≢◌, ℕ, zero, suc, ◌+◌, ◌-◌, ◌<◌, Bool, true, false, cond, eqb, leb, ◌&&◌, ◌||◌, not, Option, Some, None, List, [], ◌∷◌, ◌++◌, length, map, get_or, refl, sym, ap, ◌∙◌, subst, inl, inr, arith}
use Rattle.std.specs.Prelude.{All, filter, sum_by, count_by, position, is_none, find, slice_set}
use Rattle.std.specs.List.{flat_map, list_any}
use Rattle.std.proofs.lemmas.Bool.{cases_lt, ne_eqb}
use Rattle.std.proofs.lemmas.List.{get_or_default, length-map, get_or-map}
use Rattle.std.proofs.lemmas.List.Sums.{sum_by-cons, sum_by-append}
use Rattle.std.proofs.lemmas.List.Elements.{All-head, All-tail, All-map}
use Rattle.std.proofs.lemmas.List.Kept.{AllPairs-filter}
use Rattle.cbs_rules.specs.Serving.{replenished, woken, charged, is_spent}
use Rattle.cbs_rules.specs.declared.server.Server.{Server}
use Rattle.edf_pick.specs.Places.{Places, is_task, is_on_cpu, is_chosen_number, kept_if_chosen, cpu_for, put, assigned, assigned_if, assigned_upto, placed}
use Rattle.edf_pick.specs.Choice.{is_chosen, rank, candidate_at_rank}
use Rattle.edf_pick.specs.declared.candidate.Candidate.{Candidate}
use Rattle.domain_run.specs.declared.task.Task.{Task}
use Rattle.domain_run.specs.declared.task.Condition.{Condition}
use Rattle.domain_run.specs.declared.task.Condition.TheVariants.{Ready, Throttled, Blocked, Waiting, Leaving}
use Rattle.task_script.specs.declared.script.Segment.{Segment}
use Rattle.task_script.specs.declared.script.Segment.TheVariants.{Run as RunFor, Until, Wait as WaitFor, End as EndNow}
use Rattle.domain_run.specs.declared.happened.Happened.{Happened}
use Rattle.domain_run.specs.declared.happened.What.TheVariants.{JobEnds, NextReleased, Spent, Replenished, Released, WokenSpent}
use Rattle.task_script.specs.script.Segments.{passes_late_timer, next_segment}
use Rattle.domain_run.specs.Conditions.{is_ready, is_throttled, is_leaving, is_over, has_come}
use Rattle.domain_run.specs.Parts.{replenish_due, settled, is_listed, unblocked, enqueued, started, starts, with_cpu, with_last_cpu, ran}
use Rattle.domain_run.specs.Domain.{Domain}
use Rattle.domain_run.specs.Tick.{candidate_of, candidates, with_tick_begun, prepared, rate_of, ran_if, finished, ticked, ticks}
use Rattle.domain_run.specs.Happened.{happened_to, due, job_due, logged_by_segment, logged_by_work, logged_by_budget, logged_by_run, logged_if_ran, logged_by_replenishment, logged_by_wake, logged_by_unblocking, is_first, with_happened, in_order, with_its_cpu, logged_by_beginning, logged_by_end, logged_by_tick, logged_by_ticks}
use Rattle.domain_run.proofs.CallerLemmas.{AreNumbered, ticks_numbered}
use Rattle.run_figures.specs.Jobs.{of_task}
use Rattle.run_figures.specs.Throttling.{throttles}
use Rattle.run_figures.specs.Balance.{replenishes, AreBalanced}

-- ---- counts

abbrev pub throttled_by : ℕ → Happened → ℕ
throttled_by n h = cond (eqb h.number n && throttles h.what) 1 0

abbrev pub replenished_by : ℕ → Happened → ℕ
replenished_by n h = cond (eqb h.number n && replenishes h.what) 1 0

abbrev pub opened_by : ℕ → Task → ℕ
opened_by n t = cond (eqb t.number n && is_throttled t.condition) 1 0

-- of one task alone
pub own_sum : (n : ℕ) (p : Happened → Bool) (hs : List Happened) → count_by p (of_task n hs) ≡ sum_by (λ h. cond (eqb h.number n && p h) 1 0) hs
own_sum n p [] = refl
own_sum n p (h ∷ hs) =
    elim (eqb h.number n) as (λ b. count_by p (cond b (h ∷ of_task n hs) (of_task n hs)) ≡ cond (b && p h) 1 0 + sum_by (λ (g : Happened). cond (eqb g.number n && p g) 1 0) hs) [
      | true ↦ sum_by-cons (λ (g : Happened). cond (p g) 1 0) h (of_task n hs) ∙ ap (λ k. cond (p h) 1 0 + k) (own_sum n p hs)
      | false ↦ omega (arith, own_sum n p hs)
    ] ∙ sym (sum_by-cons (λ (g : Happened). cond (eqb g.number n && p g) 1 0) h hs)

sum_with : (f : Happened → ℕ) (h : Happened) (xs : List Happened) → sum_by f (with_happened h xs) ≡ f h + sum_by f xs
sum_with f h [] = sum_by-cons f h []
sum_with f h (x ∷ xs) =
    elim (is_first h x) as (λ b. sum_by f (cond b (h ∷ x ∷ xs) (x ∷ with_happened h xs)) ≡ f h + sum_by f (x ∷ xs)) [
      | true ↦ sum_by-cons f h (x ∷ xs)
      | false ↦ omega (arith, sum_by-cons f x (with_happened h xs), sum_with f h xs, sum_by-cons f x xs)
    ]

pub sum_order : (f : Happened → ℕ) (hs : List Happened) → sum_by f (in_order hs) ≡ sum_by f hs
sum_order f [] = refl
sum_order f (h ∷ hs) = sum_with f h (in_order hs) ∙ ap (λ n. f h + n) (sum_order f hs) ∙ sym (sum_by-cons f h hs)

-- on the CPU of its task
pub sum_home : (f : Happened → ℕ) (g : Happened → Happened) (hs : List Happened) → ((h : Happened) → f (g h) ≡ f h) → sum_by f (map g hs) ≡ sum_by f hs
sum_home f g [] same = refl
sum_home f g (h ∷ hs) same = sum_by-cons f (g h) (map g hs) ∙ (λ i. same h i + sum_home f g hs same i) ∙ sym (sum_by-cons f h hs)

-- what is logged of a task, from it to what it is then
abbrev Balances : ℕ → Task → List Happened → Task → Type 0
Balances n t happened_to u = opened_by n t + sum_by (throttled_by n) happened_to ≡ sum_by (replenished_by n) happened_to + opened_by n u

-- of a list
balance_all : (n : ℕ) (f : Task → List Happened) (g : Task → Task) (tasks : List Task) → All (λ t. Balances n t (f t) (g t)) tasks
    → sum_by (opened_by n) tasks + sum_by (throttled_by n) (flat_map f tasks) ≡ sum_by (replenished_by n) (flat_map f tasks) + sum_by (opened_by n) (map g tasks)
balance_all n f g [] all = refl
balance_all n f g (t ∷ tasks) all =
    let here : Balances n t (f t) (g t) = All-head (λ t. Balances n t (f t) (g t)) t tasks all in
    let more = balance_all n f g tasks (All-tail (λ t. Balances n t (f t) (g t)) t tasks all) in
    let a = sum_by-cons (opened_by n) t tasks in
    let b = sum_by-cons (opened_by n) (g t) (map g tasks) in
    let c = sum_by-append (throttled_by n) (f t) (flat_map f tasks) in
    let e = sum_by-append (replenished_by n) (f t) (flat_map f tasks) in
    omega (arith, here, more, a, b, c, e)

-- a map that keeps number and condition
same_open : (n : ℕ) (g : Task → Task) (tasks : List Task) → ((t : Task) → opened_by n (g t) ≡ opened_by n t) → sum_by (opened_by n) (map g tasks) ≡ sum_by (opened_by n) tasks
same_open n g [] same = refl
same_open n g (t ∷ tasks) same = sum_by-cons (opened_by n) (g t) (map g tasks) ∙ (λ i. same t i + same_open n g tasks same i) ∙ sym (sum_by-cons (opened_by n) t tasks)

pub closed : (n k : ℕ) → cond {A = ℕ} (eqb k n && false) 1 0 ≡ 0
closed n k = elim (eqb k n) as (λ b. cond {A = ℕ} (b && false) 1 0 ≡ 0) [ true ↦ refl | false ↦ refl ]

-- ---- PARTS 1 to 3

replenish_balances : (n time : ℕ) (t : Task) → Balances n t (logged_by_replenishment time t) (replenish_due time t)
replenish_balances n time t = by_condition t.condition
  where
    with_it : Condition → Task
    with_it c = record t { condition = c }

    by_condition : (c : Condition) → Balances n (with_it c) (logged_by_replenishment time (with_it c)) (replenish_due time (with_it c))
    by_condition Throttled =
        let x = with_it Throttled in
        let u : Task = record x { server = replenished t.params t.server; condition = Ready } in
        elim (has_come time t.server.deadline) as (λ b. Balances n x (cond b (happened_to time x (Replenished (due (cond b u x))) ∷ []) []) (cond b u x)) [
          | true ↦ elim (eqb t.number n) as (λ e. cond (e && true) 1 0 + sum_by (λ (h : Happened). cond (e && throttles h.what) 1 0) (happened_to time x (Replenished (due u)) ∷ []) ≡ sum_by (λ (h : Happened). cond (e && replenishes h.what) 1 0) (happened_to time x (Replenished (due u)) ∷ []) + cond (e && false) 1 0) [ true ↦ refl | false ↦ refl ]
          | false ↦ omega arith
        ]
    by_condition Ready = omega arith
    by_condition (Blocked u) = omega arith
    by_condition Waiting = omega arith
    by_condition Leaving = omega arith

settled_open : (n time : ℕ) (t : Task) → opened_by n (settled time t) ≡ opened_by n t
settled_open n time t = elim (has_come time t.zero_lag) as (λ b. opened_by n (cond b (record t { zero_lag = None }) t) ≡ opened_by n t) [ true ↦ refl | false ↦ refl ]

listed_open : (n : ℕ) (tasks : List Task) → sum_by (opened_by n) (filter is_listed tasks) ≡ sum_by (opened_by n) tasks
listed_open n [] = refl
listed_open n (t ∷ tasks) =
    let rest = listed_open n tasks in
    elim (is_listed t) as (λ b. is_listed t ≡ b → sum_by (opened_by n) (cond b (t ∷ filter is_listed tasks) (filter is_listed tasks)) ≡ sum_by (opened_by n) (t ∷ tasks)) [
      | true ↦ λ e. omega (arith, rest, sum_by-cons (opened_by n) t (filter is_listed tasks), sum_by-cons (opened_by n) t tasks)
      | false ↦ λ e. omega (arith, rest, sum_by-cons (opened_by n) t tasks, gone t.condition (is_none t.zero_lag) e)
    ] refl
  where
    gone : (c : Condition) (z : Bool) → not (is_leaving c && z) ≡ false → cond {A = ℕ} (eqb t.number n && is_throttled c) 1 0 ≡ 0
    gone Leaving z e = closed n t.number
    gone Ready z e = absurd cc
    gone Throttled z e = absurd cc
    gone (Blocked u) z e = absurd cc
    gone Waiting z e = absurd cc

-- a wake tells of a throttle where it leaves one open
wake_balances : (n time k : ℕ) (t u : Task) → u.number ≡ t.number → sum_by (throttled_by n) (logged_by_wake time t u (RunFor k)) ≡ sum_by (replenished_by n) (logged_by_wake time t u (RunFor k)) + opened_by n u
wake_balances n time k t u same = subst (λ m. sum_by (throttled_by n) (logged_by_wake time t u (RunFor k)) ≡ sum_by (replenished_by n) (logged_by_wake time t u (RunFor k)) + cond (eqb m n && is_throttled u.condition) 1 0) (sym same)
    (elim (is_throttled u.condition) as (λ b. sum_by (throttled_by n) (happened_to time t (Released (job_due time t)) ∷ cond b (happened_to time t (WokenSpent (due u)) ∷ []) []) ≡ sum_by (replenished_by n) (happened_to time t (Released (job_due time t)) ∷ cond b (happened_to time t (WokenSpent (due u)) ∷ []) []) + cond (eqb t.number n && b) 1 0) [
      | true ↦ elim (eqb t.number n) as (λ e. sum_by (λ (h : Happened). cond (e && throttles h.what) 1 0) (happened_to time t (Released (job_due time t)) ∷ happened_to time t (WokenSpent (due u)) ∷ []) ≡ sum_by (λ (h : Happened). cond (e && replenishes h.what) 1 0) (happened_to time t (Released (job_due time t)) ∷ happened_to time t (WokenSpent (due u)) ∷ []) + cond (e && true) 1 0) [ true ↦ refl | false ↦ refl ]
      | false ↦ elim (eqb t.number n) as (λ e. sum_by (λ (h : Happened). cond (e && throttles h.what) 1 0) (happened_to time t (Released (job_due time t)) ∷ []) ≡ sum_by (λ (h : Happened). cond (e && replenishes h.what) 1 0) (happened_to time t (Released (job_due time t)) ∷ []) + cond (e && false) 1 0) [ true ↦ refl | false ↦ refl ]
    ])

pub number_enqueued : (time : ℕ) (s : Server) (x : Task) → (enqueued time s x).number ≡ x.number
number_enqueued time s x = elim (is_spent s) as (λ a. (cond a (cond (has_come time s.deadline) (record x { server = replenished x.params s; condition = Ready }) (record x { server = s; condition = Throttled })) (record x { server = s; condition = Ready })).number ≡ x.number) [
  | true ↦ elim (has_come time s.deadline) as (λ b. (cond b (record x { server = replenished x.params s; condition = Ready }) (record x { server = s; condition = Throttled })).number ≡ x.number) [ true ↦ refl | false ↦ refl ]
  | false ↦ refl
]

-- a task that asked its script in part 3
unblock_balances : (n time : ℕ) (t : Task) → Balances n t (logged_by_unblocking time t) (unblocked time t)
unblock_balances n time t = by_condition t.condition
  where
    with_it : Condition → Task
    with_it c = record t { condition = c }

    asks : (s : Segment) (x t' : Task) → x.number ≡ t'.number → is_throttled t'.condition ≡ false → is_throttled x.condition ≡ false
        → opened_by n t' + sum_by (throttled_by n) (logged_by_wake time t' (started time s x) s) ≡ sum_by (replenished_by n) (logged_by_wake time t' (started time s x) s) + opened_by n (started time s x)
    asks (RunFor k) x t' same quiet also =
        let u = enqueued time (woken x.params time x.server) (record x { zero_lag = None; work = k }) in
        let nothing : opened_by n t' ≡ 0 = ap (λ b. cond (eqb t'.number n && b) 1 0) quiet ∙ closed n t'.number in
        omega (arith, nothing, wake_balances n time k t' u (number_enqueued time (woken x.params time x.server) (record x { zero_lag = None; work = k }) ∙ same))
    asks (Until u) x t' same quiet also = let nothing : opened_by n t' ≡ 0 = ap (λ b. cond (eqb t'.number n && b) 1 0) quiet ∙ closed n t'.number in omega (arith, nothing, closed n x.number)
    asks WaitFor x t' same quiet also = let nothing : opened_by n t' ≡ 0 = ap (λ b. cond (eqb t'.number n && b) 1 0) quiet ∙ closed n t'.number in omega (arith, nothing, closed n x.number)
    asks EndNow x t' same quiet also = let nothing : opened_by n t' ≡ 0 = ap (λ b. cond (eqb t'.number n && b) 1 0) quiet ∙ closed n t'.number in omega (arith, nothing, closed n x.number)

    by_condition : (c : Condition) → Balances n (with_it c) (logged_by_unblocking time (with_it c)) (unblocked time (with_it c))
    by_condition (Blocked k) =
        let x = with_it (Blocked k) in
        let a = next_segment t.cursor time in
        elim (leb k time) as (λ b. Balances n x (cond b (logged_by_wake time x (cond b (starts time x a) x) a.segment) []) (cond b (starts time x a) x)) [
          | true ↦ asks a.segment (record x { cursor = a.cursor }) x refl refl refl
          | false ↦ omega arith
        ]
    by_condition Ready = omega arith
    by_condition Throttled = omega arith
    by_condition Waiting = omega arith
    by_condition Leaving = omega arith

-- ---- PART 4

homed_open : (n : ℕ) (places : Places) (t : Task) → opened_by n (with_last_cpu places t) ≡ opened_by n t
homed_open n places t = by_place (position (is_task t.number) places)
  where
    by_place : (o : Option ℕ) → opened_by n (with_cpu o t) ≡ opened_by n t
    by_place None = refl
    by_place (Some cpu) = refl

-- ---- A BEGINNING

-- with sums for counts
abbrev pub AreEven : List Task → List Happened → List Task → Type 0
AreEven before happened_to after = (n : ℕ) → sum_by (opened_by n) before + sum_by (throttled_by n) happened_to ≡ sum_by (replenished_by n) happened_to + sum_by (opened_by n) after

pub beginning_even : (d : Domain) → AreEven d.tasks (logged_by_beginning d) (with_tick_begun d).tasks
beginning_even d n =
    let first = map (replenish_due d.time) d.tasks in
    let second = map (settled d.time) first in
    let third = filter is_listed second in
    let A = flat_map (logged_by_replenishment d.time) d.tasks in
    let B = flat_map (logged_by_unblocking d.time) third in
    let home = with_its_cpu (with_tick_begun d).curr in
    let one = balance_all n (logged_by_replenishment d.time) (replenish_due d.time) d.tasks (λ k e h. replenish_balances n d.time (get_or d.tasks k e)) in
    let two = same_open n (settled d.time) first (settled_open n d.time) in
    let three = listed_open n second in
    let four = balance_all n (logged_by_unblocking d.time) (unblocked d.time) third (λ k e h. unblock_balances n d.time (get_or third k e)) in
    let five = same_open n (with_last_cpu (with_tick_begun d).curr) (prepared d.time d.tasks) (homed_open n (with_tick_begun d).curr) in
    let t = sum_order (throttled_by n) (map home (A ++ B)) ∙ sum_home (throttled_by n) home (A ++ B) (λ h. refl) ∙ sum_by-append (throttled_by n) A B in
    let r = sum_order (replenished_by n) (map home (A ++ B)) ∙ sum_home (replenished_by n) home (A ++ B) (λ h. refl) ∙ sum_by-append (replenished_by n) A B in
    omega (arith, one, two, three, four, five, t, r)

-- ---- AN END

-- the end of a job, and the next one, are neither
none_of : (f : Happened → ℕ) (x : Happened) → f x ≡ 0 → sum_by f (x ∷ []) ≡ 0
none_of f x nothing = sum_by-cons f x [] ∙ ap (λ k. k + 0) nothing

none_of_two : (f : Happened → ℕ) (x y : Happened) → f x ≡ 0 → f y ≡ 0 → sum_by f (x ∷ y ∷ []) ≡ 0
none_of_two f x y one two = sum_by-cons f x (y ∷ []) ∙ (λ i. one i + none_of f y two i)

segment_none : (f : Happened → ℕ) (time : ℕ) (t : Task) (late : Bool) (s : Segment) → f (happened_to time t JobEnds) ≡ 0 → f (happened_to time t (NextReleased (job_due time t))) ≡ 0 → sum_by f (logged_by_segment time t late s) ≡ 0
segment_none f time t true (RunFor k) one two = none_of_two f (happened_to time t JobEnds) (happened_to time t (NextReleased (job_due time t))) one two
segment_none f time t false (RunFor k) one two = refl
segment_none f time t late (Until u) one two = none_of f (happened_to time t JobEnds) one
segment_none f time t late WaitFor one two = none_of f (happened_to time t JobEnds) one
segment_none f time t late EndNow one two = none_of f (happened_to time t JobEnds) one

pub work_none : (f : Happened → ℕ) (time : ℕ) (t : Task) → f (happened_to time t JobEnds) ≡ 0 → f (happened_to time t (NextReleased (job_due time t))) ≡ 0 → sum_by f (logged_by_work time t) ≡ 0
work_none f time t one two =
    let late = passes_late_timer t.cursor time in
    let s = (next_segment t.cursor time).segment in
    elim (eqb t.work 0) as (λ b. sum_by f (cond b (logged_by_segment time t late s) []) ≡ 0) [ true ↦ segment_none f time t late s one two | false ↦ refl ]

budget_balances : (n time : ℕ) (u : Task) → sum_by (throttled_by n) (logged_by_budget time u) ≡ sum_by (replenished_by n) (logged_by_budget time u) + opened_by n u
budget_balances n time u =
    elim (is_throttled u.condition) as (λ b. sum_by (throttled_by n) (cond b (happened_to time u (Spent (due u)) ∷ []) []) ≡ sum_by (replenished_by n) (cond b (happened_to time u (Spent (due u)) ∷ []) []) + cond (eqb u.number n && b) 1 0) [
      | true ↦ elim (eqb u.number n) as (λ e. sum_by (λ (h : Happened). cond (e && throttles h.what) 1 0) (happened_to time u (Spent (due u)) ∷ []) ≡ sum_by (λ (h : Happened). cond (e && replenishes h.what) 1 0) (happened_to time u (Spent (due u)) ∷ []) + cond (e && true) 1 0) [ true ↦ refl | false ↦ refl ]
      | false ↦ sym (ap (λ k. 0 + k) (closed n u.number))
    ]

run_balances : (n time rate : ℕ) (t : Task) → is_throttled t.condition ≡ false → Balances n t (logged_by_run time rate t) (ran time rate t)
run_balances n time rate t quiet =
    let x : Task = record t { server = charged rate 1 t.server; work = t.work - 1 } in
    let u = ran time rate t in
    let nothing : opened_by n t ≡ 0 = ap (λ b. cond (eqb t.number n && b) 1 0) quiet ∙ closed n t.number in
    let a = sum_by-append (throttled_by n) (logged_by_work (time + 1) x) (logged_by_budget (time + 1) u) in
    let b = sum_by-append (replenished_by n) (logged_by_work (time + 1) x) (logged_by_budget (time + 1) u) in
    let c = work_none (throttled_by n) (time + 1) x (closed n t.number) (closed n t.number) in
    let e = work_none (replenished_by n) (time + 1) x (closed n t.number) (closed n t.number) in
    omega (arith, nothing, a, b, c, e, budget_balances n (time + 1) u)

-- who stands on a CPU is ready
abbrev pub MayRun : Domain → Task → Type 0
MayRun d t = is_on_cpu t.number d.curr ≡ true → is_ready t.condition ≡ true

ready_not_throttled : (c : Condition) → is_ready c ≡ true → is_throttled c ≡ false
ready_not_throttled Ready e = refl
ready_not_throttled Throttled e = absurd cc
ready_not_throttled (Blocked u) e = absurd cc
ready_not_throttled Waiting e = absurd cc
ready_not_throttled Leaving e = absurd cc

ran_balances : (n : ℕ) (d : Domain) (t : Task) → MayRun d t → Balances n t (logged_if_ran d t) (ran_if d t)
ran_balances n d t may =
    elim (is_on_cpu t.number d.curr) as (λ b. is_on_cpu t.number d.curr ≡ b → Balances n t (cond b (logged_by_run d.time (rate_of d t) t) []) (cond b (ran d.time (rate_of d t) t) t)) [
      | true ↦ λ is. run_balances n d.time (rate_of d t) t (ready_not_throttled t.condition (may is))
      | false ↦ λ is. omega arith
    ] refl

pub end_even : (d : Domain) → All (MayRun d) d.tasks → AreEven d.tasks (logged_by_end d) (finished d).tasks
end_even d may n =
    let hs = flat_map (logged_if_ran d) d.tasks in
    let all = balance_all n (logged_if_ran d) (ran_if d) d.tasks (λ k e h. ran_balances n d (get_or d.tasks k e) (may k e h)) in
    omega (arith, all, sum_order (throttled_by n) hs, sum_order (replenished_by n) hs)

-- ---- WHO STANDS IS READY

abbrev is_of : ℕ → Candidate → Bool
is_of n c = eqb c.number n

or_false : (a b : Bool) → (a || b) ≡ false → (a ≡ false) × (b ≡ false)
or_false true b e = absurd cc
or_false false b e = (refl, e)

both_false : (a b : Bool) → a ≡ false → b ≡ false → (a || b) ≡ false
both_false a b e f = ap (λ x. x || b) e ∙ f

and_none : (a b : Bool) → a ≡ false → (a && b) ≡ false
and_none a b e = ap (λ x. x && b) e

not_chosen : (cpus n : ℕ) (all ready : List Candidate) → list_any (is_of n) ready ≡ false → list_any (λ c. eqb c.number n && is_chosen cpus all c) ready ≡ false
not_chosen cpus n all [] none = refl
not_chosen cpus n all (c ∷ cs) none =
    let parts = or_false (eqb c.number n) (list_any (is_of n) cs) none in
    both_false (eqb c.number n && is_chosen cpus all c) (list_any (λ c. eqb c.number n && is_chosen cpus all c) cs) (and_none (eqb c.number n) (is_chosen cpus all c) parts.0) (not_chosen cpus n all cs parts.1)

none_stays : (cpus n : ℕ) (ready : List Candidate) (before : Places) → list_any (is_of n) ready ≡ false → is_on_cpu n (map (kept_if_chosen cpus ready) before) ≡ false
none_stays cpus n ready [] none = refl
none_stays cpus n ready (None ∷ before) none = none_stays cpus n ready before none
none_stays cpus n ready (Some m ∷ before) none =
    let rest = none_stays cpus n ready before none in
    elim (is_chosen_number cpus ready m) as (λ b. is_chosen_number cpus ready m ≡ b → (is_task n (cond b (Some m) None) || is_on_cpu n (map (kept_if_chosen cpus ready) before)) ≡ false) [
      | true ↦ λ is. both_false (eqb m n) (is_on_cpu n (map (kept_if_chosen cpus ready) before)) (ne_eqb m n (λ same.
          let no : true ≡ false = sym is ∙ ap (is_chosen_number cpus ready) same ∙ not_chosen cpus n ready ready none in absurd cc)) rest
      | false ↦ λ is. rest
    ] refl

none_set : (n : ℕ) (places : Places) (cpu : ℕ) (o : Option ℕ) → is_task n o ≡ false → is_on_cpu n places ≡ false → is_on_cpu n (slice_set places cpu o) ≡ false
none_set n [] cpu o other none = none
none_set n (p ∷ places) zero o other none = both_false (is_task n o) (is_on_cpu n places) other (or_false (is_task n p) (is_on_cpu n places) none).1
none_set n (p ∷ places) (suc cpu) o other none =
    let parts = or_false (is_task n p) (is_on_cpu n places) none in
    both_false (is_task n p) (is_on_cpu n (slice_set places cpu o)) parts.0 (none_set n places cpu o other parts.1)

none_put : (n : ℕ) (places : Places) (m : ℕ) (seat : Option ℕ) → eqb m n ≡ false → is_on_cpu n places ≡ false → is_on_cpu n (put places m seat) ≡ false
none_put n places m None other none = none
none_put n places m (Some cpu) other none = none_set n places cpu (Some m) other none

none_seated : (n : ℕ) (places : Places) (c : Candidate) → eqb c.number n ≡ false → is_on_cpu n places ≡ false → is_on_cpu n (assigned places c) ≡ false
none_seated n places c other none =
    elim (is_on_cpu c.number places) as (λ b. is_on_cpu n (cond b places (put places c.number (cpu_for places c))) ≡ false) [
      | true ↦ none
      | false ↦ none_put n places c.number (cpu_for places c) other none
    ]

found_other : (n : ℕ) (p : Candidate → Bool) (ready : List Candidate) (c : Candidate) → list_any (is_of n) ready ≡ false → find p ready ≡ Some c → eqb c.number n ≡ false
found_other n p [] c none e = absurd cc
found_other n p (r ∷ rs) c none e =
    let parts = or_false (eqb r.number n) (list_any (is_of n) rs) none in
    elim (p r) as (λ b. cond b (Some r) (find p rs) ≡ Some c → eqb c.number n ≡ false) [
      | true ↦ λ found. let same : r ≡ c = cc in ap (λ (x : Candidate). eqb x.number n) (sym same) ∙ parts.0
      | false ↦ λ found. found_other n p rs c parts.1 found
    ] e

none_seated_if : (n : ℕ) (places : Places) (ready : List Candidate) (o : Option Candidate) → ((c : Candidate) → o ≡ Some c → eqb c.number n ≡ false) → is_on_cpu n places ≡ false → is_on_cpu n (assigned_if places o) ≡ false
none_seated_if n places ready None other none = none
none_seated_if n places ready (Some c) other none = none_seated n places c (other c refl) none

none_upto : (n : ℕ) (ready : List Candidate) (places : Places) (r : ℕ) → list_any (is_of n) ready ≡ false → is_on_cpu n places ≡ false → is_on_cpu n (assigned_upto ready places r) ≡ false
none_upto n ready places zero none empty = empty
none_upto n ready places (suc r) none empty =
    none_seated_if n (assigned_upto ready places r) ready (candidate_at_rank ready r) (λ c e. found_other n (λ x. eqb (rank ready x) r) ready c none e) (none_upto n ready places r none empty)

none_placed : (n cpus : ℕ) (ready : List Candidate) (before : Places) → list_any (is_of n) ready ≡ false → is_on_cpu n (placed cpus ready before) ≡ false
none_placed n cpus ready before none = none_upto n ready (map (kept_if_chosen cpus ready) before) cpus none (none_stays cpus n ready before none)

abbrev is_ready_of : ℕ → Task → Bool
is_ready_of n t = eqb t.number n && is_ready t.condition

no_candidate : (n : ℕ) (tasks : List Task) → All (λ t. is_ready_of n t ≡ false) tasks → list_any (is_of n) (candidates tasks) ≡ false
no_candidate n [] none = refl
no_candidate n (t ∷ tasks) none =
    let here : is_ready_of n t ≡ false = All-head (λ t. is_ready_of n t ≡ false) t tasks none in
    let rest = no_candidate n tasks (All-tail (λ t. is_ready_of n t ≡ false) t tasks none) in
    elim (is_ready t.condition) as (λ b. (eqb t.number n && b) ≡ false → list_any (is_of n) (map candidate_of (cond b (t ∷ filter (λ t. is_ready t.condition) tasks) (filter (λ t. is_ready t.condition) tasks))) ≡ false) [
      | true ↦ λ e. both_false (eqb t.number n) (list_any (is_of n) (candidates tasks)) (whole (eqb t.number n) e) rest
      | false ↦ λ e. rest
    ] here
  where
    whole : (a : Bool) → (a && true) ≡ false → a ≡ false
    whole true e = e
    whole false e = refl

and_right : (a b : Bool) → b ≡ false → (a && b) ≡ false
and_right true b e = e
and_right false b e = refl

-- where one is not ready, none of its number is
alone : (tasks : List Task) (i : ℕ) (d : Task) → AreNumbered tasks → i < length tasks → is_ready (get_or tasks i d).condition ≡ false → All (λ u. is_ready_of (get_or tasks i d).number u ≡ false) tasks
alone tasks i d numbered within is j e there =
    let n = (get_or tasks i d).number in
    let same : get_or tasks j e ≡ get_or tasks j d = get_or_default tasks j e d there in
    let by : is_ready_of n (get_or tasks j d) ≡ false = elim (cases_lt i j) [
      | inl less ↦ and_none (eqb (get_or tasks j d).number n) (is_ready (get_or tasks j d).condition) (ne_eqb (get_or tasks j d).number n (λ s. numbered i j d less there (sym s)))
      | inr at_least ↦ elim (cases_lt j i) [
        | inl more ↦ and_none (eqb (get_or tasks j d).number n) (is_ready (get_or tasks j d).condition) (ne_eqb (get_or tasks j d).number n (λ s. numbered j i d more within s))
        | inr at_most ↦
            let here : j ≡ i = omega (arith, at_least, at_most) in
            and_right (eqb (get_or tasks j d).number n) (is_ready (get_or tasks j d).condition) (ap (λ k. is_ready (get_or tasks k d).condition) here ∙ is)
      ]
    ] in
    ap (is_ready_of n) same ∙ by

-- a true one where a false one follows
opposite : (a b : Bool) → (b ≡ false → a ≡ false) → a ≡ true → b ≡ true
opposite a true h e = refl
opposite a false h e = let no : true ≡ false = sym e ∙ h refl in absurd cc

prepared_may_run : (cpus : ℕ) (tasks : List Task) (before : Places) → AreNumbered tasks → All (λ t. is_on_cpu t.number (placed cpus (candidates tasks) before) ≡ true → is_ready t.condition ≡ true) tasks
prepared_may_run cpus tasks before numbered i d within on_cpu =
    let t = get_or tasks i d in
    opposite (is_on_cpu t.number (placed cpus (candidates tasks) before)) (is_ready t.condition)
    (λ is. none_placed t.number cpus (candidates tasks) before (no_candidate t.number tasks (alone tasks i d numbered within is))) on_cpu

pub homed_number : (o : Option ℕ) (t : Task) → (with_cpu o t).number ≡ t.number
homed_number None t = refl
homed_number (Some cpu) t = refl

pub homed_condition : (o : Option ℕ) (t : Task) → (with_cpu o t).condition ≡ t.condition
homed_condition None t = refl
homed_condition (Some cpu) t = refl

pub begun_may_run : (d : Domain) → AreNumbered (prepared d.time d.tasks) → All (MayRun (with_tick_begun d)) (with_tick_begun d).tasks
begun_may_run d numbered =
    let tasks = prepared d.time d.tasks in
    let places = placed d.cpus (candidates tasks) d.curr in
    All-map (MayRun (with_tick_begun d)) (with_last_cpu places) tasks
    (λ k e h on_cpu.
    let t = get_or tasks k e in
    let o = position (is_task t.number) places in
    ap is_ready (homed_condition o t) ∙ prepared_may_run d.cpus tasks d.curr numbered k e h (ap (λ n. is_on_cpu n places) (sym (homed_number o t)) ∙ on_cpu))

-- ---- NUMBERS

pub number_due : (time : ℕ) (t : Task) → (replenish_due time t).number ≡ t.number
number_due time t = elim (is_throttled t.condition && has_come time t.server.deadline) as (λ b. (cond b (record t { server = replenished t.params t.server; condition = Ready }) t).number ≡ t.number) [ true ↦ refl | false ↦ refl ]

pub number_settled : (time : ℕ) (t : Task) → (settled time t).number ≡ t.number
number_settled time t = elim (has_come time t.zero_lag) as (λ b. (cond b (record t { zero_lag = None }) t).number ≡ t.number) [ true ↦ refl | false ↦ refl ]

number_started : (time : ℕ) (s : Segment) (t : Task) → (started time s t).number ≡ t.number
number_started time (RunFor k) t = number_enqueued time (woken t.params time t.server) (record t { zero_lag = None; work = k })
number_started time (Until u) t = refl
number_started time WaitFor t = refl
number_started time EndNow t = refl

pub number_unblocked : (time : ℕ) (t : Task) → (unblocked time t).number ≡ t.number
number_unblocked time t =
    let a = next_segment t.cursor time in
    elim (is_over time t.condition) as (λ b. (cond b (starts time t a) t).number ≡ t.number) [ true ↦ number_started time a.segment (record t { cursor = a.cursor }) | false ↦ refl ]

pub numbered_map : (f : Task → Task) → ((t : Task) → (f t).number ≡ t.number) → (tasks : List Task) → AreNumbered tasks → AreNumbered (map f tasks)
numbered_map f keeps tasks numbered i j d less within =
    let e : length (map f tasks) ≡ length tasks = simp length-map in
    let there : j < length tasks = omega arith in
    let here : i < length tasks = omega arith in
    rw (get_or-map f tasks i d d here, get_or-map f tasks j d d there) (λ same. numbered i j d less there (sym (keeps (get_or tasks i d)) ∙ same ∙ keeps (get_or tasks j d)))

pub prepared_numbered : (time : ℕ) (tasks : List Task) → AreNumbered tasks → AreNumbered (prepared time tasks)
prepared_numbered time tasks numbered =
    let first = map (replenish_due time) tasks in
    let second = map (settled time) first in
    numbered_map (unblocked time) (number_unblocked time) (filter is_listed second)
    (AllPairs-filter (λ (a b : Task). a.number ≢ b.number) is_listed second
    (numbered_map (settled time) (number_settled time) first (numbered_map (replenish_due time) (number_due time) tasks numbered)))

-- ---- TICKS

even_more : (a b c : List Task) (hs gs : List Happened) → AreEven a hs b → AreEven b gs c → AreEven a (hs ++ gs) c
even_more a b c hs gs one two n = omega (arith, one n, two n, sum_by-append (throttled_by n) hs gs, sum_by-append (replenished_by n) hs gs)

pub tick_even : (d : Domain) → AreNumbered d.tasks → AreEven d.tasks (logged_by_tick d) (ticked d).tasks
tick_even d numbered =
    even_more d.tasks (with_tick_begun d).tasks (ticked d).tasks (logged_by_beginning d) (logged_by_end (with_tick_begun d))
    (beginning_even d) (end_even (with_tick_begun d) (begun_may_run d (prepared_numbered d.time d.tasks numbered)))

pub ticks_even : (k : ℕ) (d : Domain) → AreNumbered d.tasks → AreEven d.tasks (logged_by_ticks k d) (ticks k d).tasks
ticks_even zero d numbered = λ n. omega arith
ticks_even (suc k) d numbered =
    even_more d.tasks (ticks k d).tasks (ticks (suc k) d).tasks (logged_by_ticks k d) (logged_by_tick (ticks k d))
    (ticks_even k d numbered) (tick_even (ticks k d) (ticks_numbered k d numbered))

-- the law, in counts
pub balanced_by : (before after : List Task) (hs : List Happened) → AreEven before hs after → AreBalanced before hs after
balanced_by before after hs even n = omega (arith, even n, own_sum n (λ h. throttles h.what) hs, own_sum n (λ h. replenishes h.what) hs)

pub ticks_balanced : (k : ℕ) (d : Domain) → AreNumbered d.tasks → AreBalanced d.tasks (logged_by_ticks k d) (ticks k d).tasks
ticks_balanced k d numbered = balanced_by d.tasks (ticks k d).tasks (logged_by_ticks k d) (ticks_even k d numbered)
