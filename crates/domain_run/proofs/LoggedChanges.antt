-- What a transition of a task logs, by a look before it and after it, and what the changes of a
-- list log.
use Rattle.std.proofs.Common.{◌≡◌, ◌≢◌, ℕ, zero, suc, ◌+◌, ◌-◌, ◌<◌, Bool, true, false, cond, eqb, ◌&&◌, ◌||◌, not, None, Some, List, [], ◌∷◌, ◌++◌, length, take, get_or, refl, sym, ap, ◌∙◌, inr, subst, arith, eq-eqb}
use Rattle.std.specs.Prelude.{ℤ, All, AllPairs}
use Rattle.std.specs.List.{flat_map}
use Rattle.std.specs.List.Sorted.{IsPermutation}
use Rattle.std.proofs.lemmas.Bool.{ne_eqb}
use Rattle.std.proofs.lemmas.List.{append-nil, append_assoc, take_more}
use Rattle.std.proofs.lemmas.Grind.{flat_map-append}
use Rattle.std.proofs.lemmas.Option.{same_Some}
use Rattle.std.proofs.lemmas.List.Sorted.{IsPermutation-refl, IsPermutation-trans, IsPermutation-append_left, IsPermutation-append_right, IsPermutation-append_comm}
use Rattle.std.proofs.lemmas.List.Elements.{All-nil, All-cons, All-head, All-tail, All-append, All-weaker}
use Rattle.cbs_rules.specs.Serving.{replenished, woken, is_spent}
use Rattle.cbs_rules.specs.declared.server.Server.{Server}
use Rattle.domain_run.specs.declared.task.Task.{Task}
use Rattle.domain_run.specs.declared.task.Condition.{Condition}
use Rattle.domain_run.specs.declared.task.Condition.TheVariants.{Ready, Throttled, Blocked, Waiting, Leaving}
use Rattle.domain_run.specs.declared.transition.Transition.{Transition}
use Rattle.domain_run.specs.declared.transition.Transition.TheVariants.{Replenish, Settle, Unblock, Run, RunDeferring, Defer, TakeBack, Regrade, Release, End, Depart}
use Rattle.task_script.specs.declared.script.Segment.{Segment}
use Rattle.task_script.specs.declared.script.Segment.TheVariants.{Run as RunFor, Until, Wait as WaitFor, End as EndNow}
use Rattle.domain_run.specs.declared.happened.What.{What}
use Rattle.domain_run.specs.declared.happened.What.TheVariants.{JobEnds, NextReleased, Spent, Replenished, Released, WokenSpent}
use Rattle.domain_run.specs.declared.happened.Happened.{Happened}
use Rattle.task_script.specs.script.Segments.{passes_late_timer, next_segment}
use Rattle.domain_run.specs.Conditions.{is_ready, is_throttled, is_contending, is_over, has_come}
use Rattle.domain_run.specs.Parts.{replenish_due, unblocked, enqueued, started, starts, running_on, went_on, goes_on}
use Rattle.domain_run.specs.Happened.{happened_to, due, job_due, logged_by_segment, logged_by_work, logged_by_budget, logged_by_replenishment, logged_by_wake, logged_by_unblocking}
use Rattle.domain_run.specs.private.Index.{IsListedAt, IsUnlisted}
use Rattle.domain_run.specs.declared.transition_log.Before.{Before}
use Rattle.domain_run.specs.private.TaskTable.{task_after, IsSeenAs}
use Rattle.domain_run.specs.private.Paying.{ran_until}
use Rattle.domain_run.specs.private.TransitionLog.{logged_until, logged_by_transition, logged_of_number, look_of, logged_where, entries_after, one_of, all_of_logged, IsApart}
use Rattle.domain_run.proofs.Due.{still_at}
use Rattle.domain_run.proofs.LoggedOrder.{AreApart}

-- ---- ONE CHANGE, seen before it and after it

throttled_unready : (c : Condition) → is_throttled c ≡ true → is_ready c ≡ false
throttled_unready Ready h = absurd cc
throttled_unready Throttled h = refl
throttled_unready (Blocked u) h = refl
throttled_unready Waiting h = refl
throttled_unready Leaving h = refl

replenishment_seen : (time : ℕ) (t : Task) → all_of_logged (entries_after time Replenish (look_of time Replenish t) (replenish_due time t)) ≡ logged_by_replenishment time t
replenishment_seen time t = by_both (is_throttled t.condition) (has_come time t.server.deadline) refl
  where
    u : Task
    u = record t { server = replenished t.params t.server; condition = Ready }

    by_both : (a b : Bool) → is_throttled t.condition ≡ a →
        one_of (logged_where (a && is_ready (cond (a && b) u t).condition) time (cond (a && b) u t) (Replenished (due (cond (a && b) u t)))) ++ []
        ≡ cond (a && b) (happened_to time t (Replenished (due (cond (a && b) u t))) ∷ []) []
    by_both false b e = refl
    by_both true true e = refl
    by_both true false e = ap (λ r. one_of (logged_where r time t (Replenished (due t))) ++ []) (throttled_unready t.condition e)

-- a task that asked its script in part 3
unblocking_seen : (time : ℕ) (t : Task) → all_of_logged (entries_after time Unblock (look_of time Unblock t) (unblocked time t)) ≡ logged_by_unblocking time t
unblocking_seen time t = by_over (is_over time t.condition)
  where
    seen : Bool → Task → List Happened
    seen over u = one_of (logged_where (over && is_contending u.condition) time u (Released (job_due time u))) ++ (one_of (logged_where (over && is_throttled u.condition) time u (WokenSpent (due u))) ++ [])

    wakes : (n : ℕ) (s : Server) (x : Task) → x.number ≡ t.number → x.cpu ≡ t.cpu → x.params ≡ t.params → seen true (enqueued time s x) ≡ logged_by_wake time t (enqueued time s x) (RunFor n)
    wakes n s x number cpu params =
        let at : (w : What) (u : Task) → u.number ≡ x.number → u.cpu ≡ x.cpu → happened_to time u w ≡ happened_to time t w = λ w u a b. λ i. record { time = time; what = w; number = (a ∙ number) i; cpu = (b ∙ cpu) i } in
        let later : (u : Task) → u.params ≡ x.params → job_due time u ≡ job_due time t = λ u a. ap (λ p. time + p.deadline) (a ∙ params) in
        elim (is_spent s) as (λ a. seen true (cond a (cond (has_come time s.deadline) (record x { server = replenished x.params s; condition = Ready }) (record x { server = s; condition = Throttled })) (record x { server = s; condition = Ready }))
        ≡ logged_by_wake time t (cond a (cond (has_come time s.deadline) (record x { server = replenished x.params s; condition = Ready }) (record x { server = s; condition = Throttled })) (record x { server = s; condition = Ready })) (RunFor n)) [
          | true ↦ elim (has_come time s.deadline) as (λ b. seen true (cond b (record x { server = replenished x.params s; condition = Ready }) (record x { server = s; condition = Throttled }))
              ≡ logged_by_wake time t (cond b (record x { server = replenished x.params s; condition = Ready }) (record x { server = s; condition = Throttled })) (RunFor n)) [
                | true ↦ let u : Task = record x { server = replenished x.params s; condition = Ready } in (λ i. at (Released (later u refl i)) u refl refl i ∷ [])
                | false ↦ let u : Task = record x { server = s; condition = Throttled } in (λ i. at (Released (later u refl i)) u refl refl i ∷ at (WokenSpent (due u)) u refl refl i ∷ [])
              ]
          | false ↦ let u : Task = record x { server = s; condition = Ready } in (λ i. at (Released (later u refl i)) u refl refl i ∷ [])
        ]

    asks : (s : Segment) (x : Task) → x.number ≡ t.number → x.cpu ≡ t.cpu → x.params ≡ t.params → seen true (started time s x) ≡ logged_by_wake time t (started time s x) s
    asks (RunFor n) x number cpu params = wakes n (woken x.params time x.server) (record x { zero_lag = None; work = n }) number cpu params
    asks (Until u) x number cpu params = refl
    asks WaitFor x number cpu params = refl
    asks EndNow x number cpu params = refl

    by_over : (over : Bool) → seen over (cond over (starts time t (next_segment t.cursor time)) t) ≡ cond over (logged_by_wake time t (cond over (starts time t (next_segment t.cursor time)) t) (next_segment t.cursor time).segment) []
    by_over true = asks (next_segment t.cursor time).segment (record t { cursor = (next_segment t.cursor time).cursor }) refl refl refl
    by_over false = refl

-- a task that ran
run_seen : (time ticks : ℕ) (left : ℤ) (t : Task) → all_of_logged (entries_after time (Run ticks left) (look_of time (Run ticks left) t) (ran_until time ticks left t)) ≡ logged_until time ticks left t
run_seen time ticks left t = by_work (eqb (t.work - ticks) 0)
  where
    x : Task
    x = record t { server = record t.server { left = left }; work = t.work - ticks }

    late : Bool
    late = passes_late_timer t.cursor time

    seen : Bool → Task → List Happened
    seen l u = one_of (logged_where (not (is_contending u.condition) || l) time u JobEnds) ++ (one_of (logged_where (is_contending u.condition && l) time u (NextReleased (job_due time u))) ++ one_of (logged_where (is_throttled u.condition) time u (Spent (due u))))

    budget : Bool → Task → List Happened
    budget b u = cond b (happened_to time u (Spent (due u)) ∷ []) []

    -- it runs on, with so much work
    runs_on : (l : Bool) (y : Task) → seen l (running_on y) ≡ cond l (happened_to time y JobEnds ∷ happened_to time y (NextReleased (job_due time y)) ∷ []) [] ++ logged_by_budget time (running_on y)
    runs_on l y = elim (is_spent y.server) as (λ s. seen l (record y { condition = cond s Throttled Ready }) ≡ cond l (happened_to time y JobEnds ∷ happened_to time y (NextReleased (job_due time y)) ∷ []) [] ++ logged_by_budget time (record y { condition = cond s Throttled Ready })) [
      | true ↦ elim l as (λ l. seen l (record y { condition = Throttled }) ≡ cond l (happened_to time y JobEnds ∷ happened_to time y (NextReleased (job_due time y)) ∷ []) [] ++ logged_by_budget time (record y { condition = Throttled })) [ true ↦ refl | false ↦ refl ]
      | false ↦ elim l as (λ l. seen l (record y { condition = Ready }) ≡ cond l (happened_to time y JobEnds ∷ happened_to time y (NextReleased (job_due time y)) ∷ []) [] ++ logged_by_budget time (record y { condition = Ready })) [ true ↦ refl | false ↦ refl ]
    ]

    asks : (s : Segment) (y : Task) → seen late (went_on time s y) ≡ logged_by_segment time y late s ++ logged_by_budget time (went_on time s y)
    asks (RunFor n) y = runs_on late (record y { work = n })
    asks (Until u) y = refl
    asks WaitFor y = refl
    asks EndNow y = refl

    by_work : (w : Bool) → seen (w && late) (cond w (goes_on time x (next_segment t.cursor time)) (running_on x)) ≡ cond w (logged_by_segment time x late (next_segment t.cursor time).segment) [] ++ logged_by_budget time (cond w (goes_on time x (next_segment t.cursor time)) (running_on x))
    by_work true = asks (next_segment t.cursor time).segment (record x { cursor = (next_segment t.cursor time).cursor })
    by_work false = runs_on false x

pub change_seen : (time : ℕ) (transition : Transition) (t : Task) → all_of_logged (entries_after time transition (look_of time transition t) (task_after time transition t)) ≡ logged_by_transition time transition t
change_seen time Replenish t = replenishment_seen time t
change_seen time Settle t = refl
change_seen time Unblock t = unblocking_seen time t
change_seen time (Run ticks left) t = run_seen time ticks left t
change_seen time (RunDeferring ticks left) t = run_seen time ticks left t
change_seen time Defer t = refl
change_seen time (TakeBack lag) t = refl
change_seen time (Regrade params) t = refl
change_seen time Release t = refl
change_seen time End t = refl
change_seen time Depart t = refl

-- what is left of its budget and its work is not seen
after_but : (time : ℕ) (transition : Transition) (before : Before) (t : Task) (left : ℤ) (work : ℕ) → entries_after time transition before (record t { server = record t.server { left = left }; work = work }) ≡ entries_after time transition before t
after_but time Replenish before t left work = refl
after_but time Settle before t left work = refl
after_but time Unblock before t left work = refl
after_but time (Run ticks z) before t left work = refl
after_but time (RunDeferring ticks z) before t left work = refl
after_but time Defer before t left work = refl
after_but time (TakeBack lag) before t left work = refl
after_but time (Regrade params) before t left work = refl
after_but time Release before t left work = refl
after_but time End before t left work = refl
after_but time Depart before t left work = refl

pub after_seen : (time : ℕ) (transition : Transition) (before : Before) (t u : Task) → IsSeenAs t (Some u) → entries_after time transition before t ≡ entries_after time transition before u
after_seen time transition before t u seen =
    let is : u ≡ record t { server = record t.server { left = seen.left }; work = seen.work } = same_Some u (record t { server = record t.server { left = seen.left }; work = seen.work }) seen.is in
    sym (after_but time transition before t seen.left seen.work) ∙ ap (entries_after time transition before) (sym is)

-- ---- of its task alone

abbrev pub AreOf : ℕ → List Happened → Type 0
AreOf n hs = All (λ h. h.number ≡ n) hs

one_logged : (time : ℕ) (t : Task) (w : What) → AreOf t.number (happened_to time t w ∷ [])
one_logged time t w = All-cons (λ h. h.number ≡ t.number) (happened_to time t w) [] refl (All-nil (λ h. h.number ≡ t.number))

of_if : (n : ℕ) (b : Bool) (hs : List Happened) → AreOf n hs → AreOf n (cond b hs [])
of_if n true hs is = is
of_if n false hs is = All-nil (λ h. h.number ≡ n)

of_both : (n : ℕ) (hs gs : List Happened) → AreOf n hs → AreOf n gs → AreOf n (hs ++ gs)
of_both n hs gs a b = All-append (λ h. h.number ≡ n) hs gs a b

of_two : (time : ℕ) (t : Task) (v w : What) → AreOf t.number (happened_to time t v ∷ happened_to time t w ∷ [])
of_two time t v w = of_both t.number (happened_to time t v ∷ []) (happened_to time t w ∷ []) (one_logged time t v) (one_logged time t w)

of_segment : (time : ℕ) (t : Task) (late : Bool) (s : Segment) → AreOf t.number (logged_by_segment time t late s)
of_segment time t late (RunFor n) = of_if t.number late (happened_to time t JobEnds ∷ happened_to time t (NextReleased (job_due time t)) ∷ []) (of_two time t JobEnds (NextReleased (job_due time t)))
of_segment time t late (Until u) = one_logged time t JobEnds
of_segment time t late WaitFor = one_logged time t JobEnds
of_segment time t late EndNow = one_logged time t JobEnds

of_work : (time : ℕ) (t : Task) → AreOf t.number (logged_by_work time t)
of_work time t = of_if t.number (eqb t.work 0) (logged_by_segment time t (passes_late_timer t.cursor time) (next_segment t.cursor time).segment) (of_segment time t (passes_late_timer t.cursor time) (next_segment t.cursor time).segment)

of_budget : (time : ℕ) (t : Task) → AreOf t.number (logged_by_budget time t)
of_budget time t = of_if t.number (is_throttled t.condition) (happened_to time t (Spent (due t)) ∷ []) (one_logged time t (Spent (due t)))

went_number : (time : ℕ) (s : Segment) (t : Task) → (went_on time s t).number ≡ t.number
went_number time (RunFor n) t = refl
went_number time (Until u) t = refl
went_number time WaitFor t = refl
went_number time EndNow t = refl

ran_number : (time ticks : ℕ) (left : ℤ) (t : Task) → (ran_until time ticks left t).number ≡ t.number
ran_number time ticks left t =
    let x : Task = record t { server = record t.server { left = left }; work = t.work - ticks } in
    elim (eqb x.work 0) as (λ b. (cond b (goes_on time x (next_segment x.cursor time)) (running_on x)).number ≡ t.number) [
      | true ↦ went_number time (next_segment x.cursor time).segment (record x { cursor = (next_segment x.cursor time).cursor })
      | false ↦ refl
    ]

pub of_until : (time ticks : ℕ) (left : ℤ) (t : Task) → AreOf t.number (logged_until time ticks left t)
of_until time ticks left t =
    let x : Task = record t { server = record t.server { left = left }; work = t.work - ticks } in
    of_both t.number (logged_by_work time x) (logged_by_budget time (ran_until time ticks left t)) (of_work time x)
    (subst (λ n. AreOf n (logged_by_budget time (ran_until time ticks left t))) (ran_number time ticks left t) (of_budget time (ran_until time ticks left t)))

-- ---- A LIST, each of whose tasks tells of itself

abbrev pub LogsOwn : (Task → List Happened) → Type 0
LogsOwn f = (t : Task) → AreOf t.number (f t)

abbrev pub AreNumbered : List Task → Type 0
AreNumbered tasks = AllPairs (λ a b. a.number ≢ b.number) tasks

pub apart_of : (n : ℕ) (hs gs : List Happened) → AreOf n hs → All (λ g. g.number ≢ n) gs → AreApart hs gs
apart_of n hs gs is others =
    All-weaker (λ a. a.number ≡ n) (λ a. All (IsApart a) gs)
    (λ a same. All-weaker (λ g. g.number ≢ n) (IsApart a) (λ g other. inr (λ e. other (sym e ∙ same))) gs others) hs is

pub all_others : (f : Task → List Happened) (n : ℕ) (tasks : List Task) → LogsOwn f → All (λ t. t.number ≢ n) tasks → All (λ h. h.number ≢ n) (flat_map f tasks)
all_others f n [] own others = All-nil (λ h. h.number ≢ n)
all_others f n (t ∷ tasks) own others =
    let other : t.number ≢ n = All-head (λ t. t.number ≢ n) t tasks others in
    All-append (λ h. h.number ≢ n) (f t) (flat_map f tasks) (All-weaker (λ h. h.number ≡ t.number) (λ h. h.number ≢ n) (λ h same e. other (sym same ∙ e)) (f t) (own t))
    (all_others f n tasks own (All-tail (λ t. t.number ≢ n) t tasks others))

-- one task after another
pub logged_next : (f : Task → List Happened) (tasks : List Task) (p : ℕ) (d : Task) → p < length tasks → flat_map f (take p tasks) ++ f (get_or tasks p d) ≡ flat_map f (take (p + 1) tasks)
logged_next f tasks p d h =
    let t = get_or tasks p d in
    ap (λ hs. flat_map f (take p tasks) ++ hs) (sym (append-nil (f t))) ∙ sym (ap (flat_map f) (take_more tasks p d h) ∙ flat_map-append f (take p tasks) (t ∷ []))

-- those that log nothing may be passed by
pub logged_nothing : (f : Task → List Happened) (tasks : List Task) → All (λ t. f t ≡ []) tasks → flat_map f tasks ≡ []
logged_nothing f [] all = refl
logged_nothing f (t ∷ tasks) all = ap (λ hs. hs ++ flat_map f tasks) (All-head (λ t. f t ≡ []) t tasks all) ∙ logged_nothing f tasks (All-tail (λ t. f t ≡ []) t tasks all)

pub logged_alike : (f g : Task → List Happened) (tasks : List Task) → All (λ t. f t ≡ g t) tasks → flat_map f tasks ≡ flat_map g tasks
logged_alike f g [] all = refl
logged_alike f g (t ∷ tasks) all =
    let here : f t ≡ g t = All-head (λ t. f t ≡ g t) t tasks all in
    let more = logged_alike f g tasks (All-tail (λ t. f t ≡ g t) t tasks all) in
    λ i. here i ++ more i

-- the task of a number alone
logged_others : (f : Task → List Happened) (n : ℕ) (tasks : List Task) → IsUnlisted tasks n → flat_map (logged_of_number n f) tasks ≡ []
logged_others f n tasks absent = logged_nothing (logged_of_number n f) tasks (All-weaker (λ t. t.number ≢ n) (λ t. logged_of_number n f t ≡ []) (λ t h. ap (λ b. cond b (f t) []) (ne_eqb t.number n h)) tasks absent)

pub logged_absent : (f : Task → List Happened) (n : ℕ) (tasks : List Task) → IsUnlisted tasks n → flat_map (logged_of_number n f) tasks ≡ []
logged_absent f n tasks absent = logged_others f n tasks absent

pub logged_at : (f : Task → List Happened) (n : ℕ) (tasks : List Task) (p : ℕ) (d : Task) → AreNumbered tasks → IsListedAt tasks n p → flat_map (logged_of_number n f) tasks ≡ f (get_or tasks p d)
logged_at f n [] p d numbered is = let no : p < 0 = is.within in absurd (omega (arith, no))
logged_at f n (t ∷ tasks) zero d numbered is =
    let here : logged_of_number n f t ≡ f t = ap (λ b. cond b (f t) []) (eq-eqb t.number n (is.is t)) in
    let none : IsUnlisted tasks n = λ k e h same. numbered zero (suc k) e (omega arith) (omega arith) (is.is t ∙ sym same) in
    ap (λ hs. hs ++ flat_map (logged_of_number n f) tasks) here ∙ ap (λ hs. f t ++ hs) (logged_others f n tasks none) ∙ append-nil (f t)
logged_at f n (t ∷ tasks) (suc p) d numbered is =
    let inside : suc p < suc (length tasks) = is.within in
    let rest : IsListedAt tasks n p = record { within = omega (arith, inside); is = is.is } in
    let apart : AreNumbered tasks = λ i j e less within. numbered (suc i) (suc j) e (omega arith) (omega arith) in
    let other : t.number ≢ n = λ e. numbered zero (suc p) t (omega arith) inside (e ∙ sym (is.is t)) in
    ap (λ b. cond b (f t) [] ++ flat_map (logged_of_number n f) tasks) (ne_eqb t.number n other) ∙ logged_at f n tasks p d apart rest

-- two passes over a list, each task's own together
pub logged_both : (f g : Task → List Happened) (tasks : List Task) → IsPermutation (flat_map (λ t. f t ++ g t) tasks) (flat_map f tasks ++ flat_map g tasks)
logged_both f g [] = IsPermutation-refl []
logged_both f g (t ∷ tasks) =
    let F = flat_map f tasks in
    let G = flat_map g tasks in
    let both = flat_map (λ t. f t ++ g t) tasks in
    let all : List Happened = (f t ++ F) ++ (g t ++ G) in
    let swaps : IsPermutation (f t ++ ((g t ++ F) ++ G)) (f t ++ ((F ++ g t) ++ G)) =
    IsPermutation-append_right (f t) ((g t ++ F) ++ G) ((F ++ g t) ++ G) (IsPermutation-append_left G (g t ++ F) (F ++ g t) (IsPermutation-append_comm (g t) F)) in
    let before : f t ++ ((g t ++ F) ++ G) ≡ (f t ++ g t) ++ (F ++ G) = ap (λ hs. f t ++ hs) (append_assoc (g t) F G) ∙ sym (append_assoc (f t) (g t) (F ++ G)) in
    let after : f t ++ ((F ++ g t) ++ G) ≡ all = ap (λ hs. f t ++ hs) (append_assoc F (g t) G) ∙ sym (append_assoc (f t) F (g t ++ G)) in
    IsPermutation-trans ((f t ++ g t) ++ both) ((f t ++ g t) ++ (F ++ G)) all
    (IsPermutation-append_right (f t ++ g t) both (F ++ G) (logged_both f g tasks))
    (subst (λ hs. IsPermutation hs all) before (subst (λ hs. IsPermutation (f t ++ ((g t ++ F) ++ G)) hs) after swaps))
