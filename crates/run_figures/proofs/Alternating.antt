-- Throttles and replenishments of a task come in turn: at most one of them where a tick begins, and
-- one where it ends.
use Rattle.std.proofs.Common.{◌≡◌, ◌≢◌, ℕ, zero, suc, ◌+◌, ◌-◌, ◌≤◌, Bool, true, false, cond, eqb, leb, ◌&&◌, ◌||◌, not, None, List, [], ◌∷◌, ◌++◌, map, refl, sym, ap, ◌∙◌, subst, arith}
use Rattle.std.specs.Prelude.{All, filter, fold, sum_by}
use Rattle.std.specs.List.{flat_map}
use Rattle.std.proofs.lemmas.Bool.{eqb-true, ne_eqb}
use Rattle.std.proofs.lemmas.List.Sums.{sum_by-cons, sum_by-append, fold-append}
use Rattle.std.proofs.lemmas.List.Elements.{All-head, All-tail, filter-append}
use Rattle.cbs_rules.specs.Serving.{replenished, charged}
use Rattle.domain_run.specs.declared.task.Task.{Task}
use Rattle.domain_run.specs.declared.task.Condition.{Condition}
use Rattle.domain_run.specs.declared.task.Condition.TheVariants.{Ready, Throttled, Blocked, Waiting, Leaving}
use Rattle.task_script.specs.declared.script.Segment.{Segment}
use Rattle.task_script.specs.declared.script.Segment.TheVariants.{Run as RunFor, Until, Wait as WaitFor, End as EndNow}
use Rattle.domain_run.specs.declared.happened.What.{What}
use Rattle.domain_run.specs.declared.happened.Happened.{Happened}
use Rattle.domain_run.specs.declared.happened.What.TheVariants.{JobEnds, NextReleased, Spent, Cut, Replenished, Released, WokenSpent}
use Rattle.task_script.specs.script.Segments.{next_segment}
use Rattle.edf_pick.specs.Places.{is_on_cpu}
use Rattle.domain_run.specs.Conditions.{is_throttled, has_come}
use Rattle.domain_run.specs.Parts.{replenish_due, settled, is_listed, starts, running_on, went_on, goes_on, ran}
use Rattle.domain_run.specs.Domain.{Domain}
use Rattle.domain_run.specs.Tick.{with_tick_begun, rate_of}
use Rattle.domain_run.specs.Happened.{happened_to, due, job_due, logged_by_work, logged_by_budget, logged_by_run, logged_if_ran, logged_by_replenishment, logged_by_wake, logged_by_unblocking, with_its_cpu, logged_by_beginning, logged_by_end}
use Rattle.domain_run.proofs.CallerLemmas.{AreNumbered}
use Rattle.run_figures.specs.Jobs.{of_task}
use Rattle.run_figures.specs.Throttling.{throttles, throttled_of}
use Rattle.run_figures.specs.Balance.{replenishes, replenished_of, come_in_turn, is_left_throttled}
use Rattle.run_figures.proofs.Balance.{throttled_by, replenished_by, own_sum, sum_order, sum_home, closed, work_none}

-- ---- LISTS

abbrev pub bit : Bool → ℕ
bit b = cond b 1 0

abbrev pub Steps : Bool → List Happened → Bool → Type 0
Steps b own after = (come_in_turn b own ≡ true) × (is_left_throttled b own ≡ after)

abbrev then_left : Bool → Happened → Bool
then_left b h = throttles h.what || (not (replenishes h.what) && b)

-- where at most one of them is logged, what is open before and after says the turn
turn_head : (p q b after : Bool) (hs : List Happened) → ((a z : Bool) → bit a + throttled_of hs ≡ replenished_of hs + bit z → throttled_of hs + replenished_of hs ≤ 1 → Steps a hs z)
    → bit b + (bit p + throttled_of hs) ≡ (bit q + replenished_of hs) + bit after → (bit p + throttled_of hs) + (bit q + replenished_of hs) ≤ 1
    → (cond p (not b && come_in_turn true hs) (cond q (b && come_in_turn false hs) (come_in_turn b hs)) ≡ true) × (fold then_left (p || (not q && b)) hs ≡ after)
turn_head true true b after hs rest even few = absurd (omega (arith, few))
turn_head true false false true hs rest even few = rest true true (omega (arith, even, few)) (omega (arith, even, few))
turn_head true false false false hs rest even few = absurd (omega (arith, even, few))
turn_head true false true true hs rest even few = absurd (omega (arith, even, few))
turn_head true false true false hs rest even few = absurd (omega (arith, even, few))
turn_head false true true false hs rest even few = rest false false (omega (arith, even, few)) (omega (arith, even, few))
turn_head false true true true hs rest even few = absurd (omega (arith, even, few))
turn_head false true false true hs rest even few = absurd (omega (arith, even, few))
turn_head false true false false hs rest even few = absurd (omega (arith, even, few))
turn_head false false b after hs rest even few = rest b after (omega (arith, even)) (omega (arith, few))

same_bit : (a b : Bool) → bit a ≡ bit b → a ≡ b
same_bit true true e = refl
same_bit false false e = refl
same_bit true false e = absurd (omega (arith, e))
same_bit false true e = absurd (omega (arith, e))

turn_by : (own : List Happened) (b after : Bool) → bit b + throttled_of own ≡ replenished_of own + bit after → throttled_of own + replenished_of own ≤ 1 → Steps b own after
turn_by [] b after even few = (refl, same_bit b after (omega (arith, even)))
turn_by (h ∷ hs) b after even few =
    let t = sum_by-cons (λ (g : Happened). cond (throttles g.what) 1 0) h hs in
    let r = sum_by-cons (λ (g : Happened). cond (replenishes g.what) 1 0) h hs in
    turn_head (throttles h.what) (replenishes h.what) b after hs (turn_by hs) (omega (arith, even, t, r)) (omega (arith, few, t, r))

turn_append : (b : Bool) (xs ys : List Happened) → come_in_turn b xs ≡ true → come_in_turn (is_left_throttled b xs) ys ≡ true → come_in_turn b (xs ++ ys) ≡ true
turn_append b [] ys one two = two
turn_append b (x ∷ xs) ys one two = by_kind (throttles x.what) (replenishes x.what) b (λ a. turn_append a xs ys) one two
  where
    by_kind : (p q b : Bool) → ((a : Bool) → come_in_turn a xs ≡ true → come_in_turn (is_left_throttled a xs) ys ≡ true → come_in_turn a (xs ++ ys) ≡ true) → cond p (not b && come_in_turn true xs) (cond q (b && come_in_turn false xs) (come_in_turn b xs)) ≡ true → come_in_turn (fold then_left (p || (not q && b)) xs) ys ≡ true
        → cond p (not b && come_in_turn true (xs ++ ys)) (cond q (b && come_in_turn false (xs ++ ys)) (come_in_turn b (xs ++ ys))) ≡ true
    by_kind true q true rest one two = absurd cc
    by_kind true q false rest one two = rest true one two
    by_kind false true true rest one two = rest false one two
    by_kind false true false rest one two = absurd cc
    by_kind false false b rest one two = rest b one two

-- of the task of a number
abbrev pub StepsOf : ℕ → Bool → List Happened → Bool → Type 0
StepsOf n b hs after = Steps b (of_task n hs) after

pub steps_none : (n : ℕ) (b : Bool) → StepsOf n b [] b
steps_none n b = (refl, refl)

pub steps_more : (n : ℕ) (a b c : Bool) (hs gs : List Happened) → StepsOf n a hs b → StepsOf n b gs c → StepsOf n a (hs ++ gs) c
steps_more n a b c hs gs one two =
    let xs = of_task n hs in
    let ys = of_task n gs in
    let turns : come_in_turn a (xs ++ ys) ≡ true = turn_append a xs ys one.0 (ap (λ x. come_in_turn x ys) one.1 ∙ two.0) in
    let left : is_left_throttled a (xs ++ ys) ≡ c = fold-append then_left a xs ys ∙ ap (λ x. fold then_left x ys) one.1 ∙ two.1 in
    subst (λ zs. Steps a zs c) (sym (filter-append (λ (h : Happened). eqb h.number n) hs gs)) (turns, left)

pub steps_by : (n : ℕ) (b after : Bool) (hs : List Happened) → bit b + sum_by (throttled_by n) hs ≡ sum_by (replenished_by n) hs + bit after → sum_by (throttled_by n) hs + sum_by (replenished_by n) hs ≤ 1 → StepsOf n b hs after
steps_by n b after hs even few =
    let t = own_sum n (λ h. throttles h.what) hs in
    let r = own_sum n (λ h. replenishes h.what) hs in
    turn_by (of_task n hs) b after (omega (arith, even, t, r)) (omega (arith, few, t, r))

-- so much, by what comes in turn
pub turns_counted : (own : List Happened) (b : Bool) → come_in_turn b own ≡ true → bit b + throttled_of own ≡ replenished_of own + bit (is_left_throttled b own)
turns_counted [] b turns = omega arith
turns_counted (h ∷ hs) b turns =
    let t = sum_by-cons (λ (g : Happened). cond (throttles g.what) 1 0) h hs in
    let r = sum_by-cons (λ (g : Happened). cond (replenishes g.what) 1 0) h hs in
    omega (arith, t, r, by_kind (throttles h.what) (replenishes h.what) (throttle_or h.what) b (turns_counted hs) turns)
  where
    either : Bool → Bool → Type 0
    either p q = (p && q) ≡ false

    throttle_or : (w : What) → either (throttles w) (replenishes w)
    throttle_or JobEnds = refl
    throttle_or (NextReleased deadline) = refl
    throttle_or (Spent deadline) = refl
    throttle_or Cut = refl
    throttle_or (Replenished deadline) = refl
    throttle_or (Released deadline) = refl
    throttle_or (WokenSpent deadline) = refl

    by_kind : (p q : Bool) → either p q → (b : Bool) → ((a : Bool) → come_in_turn a hs ≡ true → bit a + throttled_of hs ≡ replenished_of hs + bit (is_left_throttled a hs)) → cond p (not b && come_in_turn true hs) (cond q (b && come_in_turn false hs) (come_in_turn b hs)) ≡ true
        → bit b + (bit p + throttled_of hs) ≡ (bit q + replenished_of hs) + bit (fold then_left (p || (not q && b)) hs)
    by_kind true true one b rest turns = absurd cc
    by_kind true false one true rest turns = absurd cc
    by_kind true false one false rest turns = omega (arith, rest true turns)
    by_kind false true one true rest turns = omega (arith, rest false turns)
    by_kind false true one false rest turns = absurd cc
    by_kind false false one b rest turns = omega (arith, rest b turns)

-- ---- AT MOST ONE TASK has a number

abbrev pub numbered_by : ℕ → Task → ℕ
numbered_by n t = cond (eqb t.number n) 1 0

none_numbered : (n : ℕ) (tasks : List Task) → All (λ t. n ≢ t.number) tasks → sum_by (numbered_by n) tasks ≡ 0
none_numbered n [] all = refl
none_numbered n (t ∷ tasks) all =
    let other : n ≢ t.number = All-head (λ (t : Task). n ≢ t.number) t tasks all in
    let rest = none_numbered n tasks (All-tail (λ (t : Task). n ≢ t.number) t tasks all) in
    let here : numbered_by n t ≡ 0 = ap (λ b. cond {A = ℕ} b 1 0) (ne_eqb t.number n (λ e. other (sym e))) in
    omega (arith, sum_by-cons (numbered_by n) t tasks, here, rest)

pub one_numbered : (n : ℕ) (tasks : List Task) → AreNumbered tasks → sum_by (numbered_by n) tasks ≤ 1
one_numbered n [] numbered = omega arith
one_numbered n (t ∷ tasks) numbered =
    let rest : AreNumbered tasks = λ i j d less within. numbered (suc i) (suc j) d (omega arith) (omega arith) in
    let others : All (λ u. t.number ≢ u.number) tasks = λ j d h. numbered zero (suc j) d (omega arith) (omega arith) in
    let sum = sum_by-cons (numbered_by n) t tasks in
    elim (eqb t.number n) as (λ b. eqb t.number n ≡ b → sum_by (numbered_by n) (t ∷ tasks) ≤ 1) [
      | true ↦ λ e.
          let same : t.number ≡ n = eqb-true t.number n e in
          let here : numbered_by n t ≡ 1 = ap (λ b. cond {A = ℕ} b 1 0) e in
          omega (arith, sum, here, none_numbered n tasks (subst (λ (m : ℕ). All (λ u. m ≢ u.number) tasks) same others))
      | false ↦ λ e.
          let here : numbered_by n t ≡ 0 = ap (λ b. cond {A = ℕ} b 1 0) e in
          omega (arith, sum, here, one_numbered n tasks rest)
    ] refl

-- ---- so little is logged of it

-- of a list
few_all : (n : ℕ) (f : Task → List Happened) (m : Task → ℕ) (tasks : List Task) → ((t : Task) → sum_by (throttled_by n) (f t) + sum_by (replenished_by n) (f t) ≤ m t)
    → sum_by (throttled_by n) (flat_map f tasks) + sum_by (replenished_by n) (flat_map f tasks) ≤ sum_by m tasks
few_all n f m [] few = omega arith
few_all n f m (t ∷ tasks) few =
    omega (arith, few t, few_all n f m tasks few, sum_by-cons m t tasks, sum_by-append (throttled_by n) (f t) (flat_map f tasks), sum_by-append (replenished_by n) (f t) (flat_map f tasks))

-- with what is left for later
few_and : (n : ℕ) (f : Task → List Happened) (g : Task → Task) (m k : Task → ℕ) (tasks : List Task) → ((t : Task) → sum_by (throttled_by n) (f t) + sum_by (replenished_by n) (f t) + k (g t) ≤ m t)
    → sum_by (throttled_by n) (flat_map f tasks) + sum_by (replenished_by n) (flat_map f tasks) + sum_by k (map g tasks) ≤ sum_by m tasks
few_and n f g m k [] few = omega arith
few_and n f g m k (t ∷ tasks) few =
    omega (arith, few t, few_and n f g m k tasks few, sum_by-cons m t tasks, sum_by-cons k (g t) (map g tasks), sum_by-append (throttled_by n) (f t) (flat_map f tasks), sum_by-append (replenished_by n) (f t) (flat_map f tasks))

-- ---- A BEGINNING: one that is replenished is not blocked

abbrev is_blocked : Condition → Bool
is_blocked Ready = false
is_blocked Throttled = false
is_blocked (Blocked u) = true
is_blocked Waiting = false
is_blocked Leaving = false

abbrev blocked_by : ℕ → Task → ℕ
blocked_by n t = cond (eqb t.number n && is_blocked t.condition) 1 0

and_least : (a b : Bool) → cond {A = ℕ} (a && b) 1 0 ≤ cond a 1 0
and_least true true = omega arith
and_least true false = omega arith
and_least false b = omega arith

replenish_few : (n time : ℕ) (t : Task) → sum_by (throttled_by n) (logged_by_replenishment time t) + sum_by (replenished_by n) (logged_by_replenishment time t) + blocked_by n (replenish_due time t) ≤ numbered_by n t
replenish_few n time t = by_condition t.condition
  where
    with_it : Condition → Task
    with_it c = record t { condition = c }

    by_condition : (c : Condition) → sum_by (throttled_by n) (logged_by_replenishment time (with_it c)) + sum_by (replenished_by n) (logged_by_replenishment time (with_it c)) + blocked_by n (replenish_due time (with_it c)) ≤ numbered_by n t
    by_condition Throttled =
        let x = with_it Throttled in
        let u : Task = record x { server = replenished t.params t.server; condition = Ready } in
        elim (has_come time t.server.deadline) as (λ b. sum_by (throttled_by n) (cond b (happened_to time x (Replenished (due (cond b u x))) ∷ []) []) + sum_by (replenished_by n) (cond b (happened_to time x (Replenished (due (cond b u x))) ∷ []) []) + blocked_by n (cond b u x) ≤ numbered_by n t) [
          | true ↦ elim (eqb t.number n) as (λ e. sum_by (λ (h : Happened). cond (e && throttles h.what) 1 0) (happened_to time x (Replenished (due u)) ∷ []) + sum_by (λ (h : Happened). cond (e && replenishes h.what) 1 0) (happened_to time x (Replenished (due u)) ∷ []) + cond (e && false) 1 0 ≤ cond e 1 0) [ true ↦ omega arith | false ↦ omega arith ]
          | false ↦ omega (arith, and_least (eqb t.number n) false)
        ]
    by_condition Ready = omega (arith, and_least (eqb t.number n) false)
    by_condition (Blocked u) = omega (arith, and_least (eqb t.number n) true)
    by_condition Waiting = omega (arith, and_least (eqb t.number n) false)
    by_condition Leaving = omega (arith, and_least (eqb t.number n) false)

-- a wake tells of at most one throttle
wake_few : (n time : ℕ) (t u : Task) (s : Segment) → sum_by (throttled_by n) (logged_by_wake time t u s) + sum_by (replenished_by n) (logged_by_wake time t u s) ≤ numbered_by n t
wake_few n time t u (RunFor k) =
    elim (is_throttled u.condition) as (λ b. sum_by (throttled_by n) (happened_to time t (Released (job_due time t)) ∷ cond b (happened_to time t (WokenSpent (due u)) ∷ []) []) + sum_by (replenished_by n) (happened_to time t (Released (job_due time t)) ∷ cond b (happened_to time t (WokenSpent (due u)) ∷ []) []) ≤ numbered_by n t) [
      | true ↦ elim (eqb t.number n) as (λ e. sum_by (λ (h : Happened). cond (e && throttles h.what) 1 0) (happened_to time t (Released (job_due time t)) ∷ happened_to time t (WokenSpent (due u)) ∷ []) + sum_by (λ (h : Happened). cond (e && replenishes h.what) 1 0) (happened_to time t (Released (job_due time t)) ∷ happened_to time t (WokenSpent (due u)) ∷ []) ≤ cond e 1 0) [ true ↦ omega arith | false ↦ omega arith ]
      | false ↦ elim (eqb t.number n) as (λ e. sum_by (λ (h : Happened). cond (e && throttles h.what) 1 0) (happened_to time t (Released (job_due time t)) ∷ []) + sum_by (λ (h : Happened). cond (e && replenishes h.what) 1 0) (happened_to time t (Released (job_due time t)) ∷ []) ≤ cond e 1 0) [ true ↦ omega arith | false ↦ omega arith ]
    ]
wake_few n time t u (Until w) = omega arith
wake_few n time t u WaitFor = omega arith
wake_few n time t u EndNow = omega arith

unblock_few : (n time : ℕ) (t : Task) → sum_by (throttled_by n) (logged_by_unblocking time t) + sum_by (replenished_by n) (logged_by_unblocking time t) ≤ blocked_by n t
unblock_few n time t = by_condition t.condition
  where
    with_it : Condition → Task
    with_it c = record t { condition = c }

    whole : (a : Bool) → cond {A = ℕ} a 1 0 ≤ cond (a && true) 1 0
    whole true = omega arith
    whole false = omega arith

    by_condition : (c : Condition) → sum_by (throttled_by n) (logged_by_unblocking time (with_it c)) + sum_by (replenished_by n) (logged_by_unblocking time (with_it c)) ≤ blocked_by n (with_it c)
    by_condition (Blocked k) =
        let x = with_it (Blocked k) in
        let a = next_segment t.cursor time in
        elim (leb k time) as (λ b. sum_by (throttled_by n) (cond b (logged_by_wake time x (cond b (starts time x a) x) a.segment) []) + sum_by (replenished_by n) (cond b (logged_by_wake time x (cond b (starts time x a) x) a.segment) []) ≤ blocked_by n x) [
          | true ↦ omega (arith, wake_few n time x (starts time x a) a.segment, whole (eqb t.number n))
          | false ↦ omega arith
        ]
    by_condition Ready = omega arith
    by_condition Throttled = omega arith
    by_condition Waiting = omega arith
    by_condition Leaving = omega arith

settled_blocked : (n time : ℕ) (tasks : List Task) → sum_by (blocked_by n) (map (settled time) tasks) ≡ sum_by (blocked_by n) tasks
settled_blocked n time [] = refl
settled_blocked n time (t ∷ tasks) =
    let here : blocked_by n (settled time t) ≡ blocked_by n t = elim (has_come time t.zero_lag) as (λ b. blocked_by n (cond b (record t { zero_lag = None }) t) ≡ blocked_by n t) [ true ↦ refl | false ↦ refl ] in
    omega (arith, sum_by-cons (blocked_by n) (settled time t) (map (settled time) tasks), sum_by-cons (blocked_by n) t tasks, here, settled_blocked n time tasks)

listed_blocked : (n : ℕ) (tasks : List Task) → sum_by (blocked_by n) (filter is_listed tasks) ≤ sum_by (blocked_by n) tasks
listed_blocked n [] = omega arith
listed_blocked n (t ∷ tasks) =
    elim (is_listed t) as (λ b. sum_by (blocked_by n) (cond b (t ∷ filter is_listed tasks) (filter is_listed tasks)) ≤ sum_by (blocked_by n) (t ∷ tasks)) [
      | true ↦ omega (arith, listed_blocked n tasks, sum_by-cons (blocked_by n) t (filter is_listed tasks), sum_by-cons (blocked_by n) t tasks)
      | false ↦ omega (arith, listed_blocked n tasks, sum_by-cons (blocked_by n) t tasks)
    ]

-- at most so much is logged of a number
abbrev pub Few : ℕ → List Happened → Type 0
Few n hs = sum_by (throttled_by n) hs + sum_by (replenished_by n) hs ≤ 1

pub beginning_few : (n : ℕ) (d : Domain) → AreNumbered d.tasks → Few n (logged_by_beginning d)
beginning_few n d numbered =
    let first = map (replenish_due d.time) d.tasks in
    let second = map (settled d.time) first in
    let third = filter is_listed second in
    let A = flat_map (logged_by_replenishment d.time) d.tasks in
    let B = flat_map (logged_by_unblocking d.time) third in
    let home = with_its_cpu (with_tick_begun d).curr in
    let one = few_and n (logged_by_replenishment d.time) (replenish_due d.time) (numbered_by n) (blocked_by n) d.tasks (replenish_few n d.time) in
    let two = few_all n (logged_by_unblocking d.time) (blocked_by n) third (unblock_few n d.time) in
    let t = sum_order (throttled_by n) (map home (A ++ B)) ∙ sum_home (throttled_by n) home (A ++ B) (λ h. refl) ∙ sum_by-append (throttled_by n) A B in
    let r = sum_order (replenished_by n) (map home (A ++ B)) ∙ sum_home (replenished_by n) home (A ++ B) (λ h. refl) ∙ sum_by-append (replenished_by n) A B in
    omega (arith, one, two, settled_blocked n d.time first, listed_blocked n second, one_numbered n d.tasks numbered, t, r)

-- ---- AN END

number_went_on : (time : ℕ) (s : Segment) (t : Task) → (went_on time s t).number ≡ t.number
number_went_on time (RunFor k) t = refl
number_went_on time (Until u) t = refl
number_went_on time WaitFor t = refl
number_went_on time EndNow t = refl

pub number_ran : (time rate : ℕ) (t : Task) → (ran time rate t).number ≡ t.number
number_ran time rate t =
    let x : Task = record t { server = charged rate 1 t.server; work = t.work - 1 } in
    let a = next_segment x.cursor (time + 1) in
    elim (eqb x.work 0) as (λ b. (cond b (goes_on (time + 1) x a) (running_on x)).number ≡ t.number) [ true ↦ number_went_on (time + 1) a.segment (record x { cursor = a.cursor }) | false ↦ refl ]

budget_few : (n time : ℕ) (u : Task) → sum_by (throttled_by n) (logged_by_budget time u) + sum_by (replenished_by n) (logged_by_budget time u) ≤ numbered_by n u
budget_few n time u =
    elim (is_throttled u.condition) as (λ b. sum_by (throttled_by n) (cond b (happened_to time u (Spent (due u)) ∷ []) []) + sum_by (replenished_by n) (cond b (happened_to time u (Spent (due u)) ∷ []) []) ≤ numbered_by n u) [
      | true ↦ elim (eqb u.number n) as (λ e. sum_by (λ (h : Happened). cond (e && throttles h.what) 1 0) (happened_to time u (Spent (due u)) ∷ []) + sum_by (λ (h : Happened). cond (e && replenishes h.what) 1 0) (happened_to time u (Spent (due u)) ∷ []) ≤ cond e 1 0) [ true ↦ omega arith | false ↦ omega arith ]
      | false ↦ omega arith
    ]

run_few : (n time rate : ℕ) (t : Task) → sum_by (throttled_by n) (logged_by_run time rate t) + sum_by (replenished_by n) (logged_by_run time rate t) ≤ numbered_by n t
run_few n time rate t =
    let x : Task = record t { server = charged rate 1 t.server; work = t.work - 1 } in
    let u = ran time rate t in
    let a = sum_by-append (throttled_by n) (logged_by_work (time + 1) x) (logged_by_budget (time + 1) u) in
    let b = sum_by-append (replenished_by n) (logged_by_work (time + 1) x) (logged_by_budget (time + 1) u) in
    let c = work_none (throttled_by n) (time + 1) x (closed n t.number) (closed n t.number) in
    let e = work_none (replenished_by n) (time + 1) x (closed n t.number) (closed n t.number) in
    let same : numbered_by n u ≡ numbered_by n t = ap (λ m. cond {A = ℕ} (eqb m n) 1 0) (number_ran time rate t) in
    omega (arith, a, b, c, e, budget_few n (time + 1) u, same)

ran_few : (n : ℕ) (d : Domain) (t : Task) → sum_by (throttled_by n) (logged_if_ran d t) + sum_by (replenished_by n) (logged_if_ran d t) ≤ numbered_by n t
ran_few n d t =
    elim (is_on_cpu t.number d.curr) as (λ b. sum_by (throttled_by n) (cond b (logged_by_run d.time (rate_of d t) t) []) + sum_by (replenished_by n) (cond b (logged_by_run d.time (rate_of d t) t) []) ≤ numbered_by n t) [
      | true ↦ run_few n d.time (rate_of d t) t
      | false ↦ omega arith
    ]

pub end_few : (n : ℕ) (d : Domain) → AreNumbered d.tasks → Few n (logged_by_end d)
end_few n d numbered =
    let hs = flat_map (logged_if_ran d) d.tasks in
    omega (arith, few_all n (logged_if_ran d) (numbered_by n) d.tasks (ran_few n d), one_numbered n d.tasks numbered, sum_order (throttled_by n) hs, sum_order (replenished_by n) hs)
