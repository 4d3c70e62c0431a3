-- A task that contends has a deadline, tick after tick.
use Rattle.std.proofs.Common.{◌≡◌, ℕ, zero, suc, ◌+◌, ◌-◌, ◌<◌, Bool, true, false, cond, ◌&&◌, eqb, Option, Some, None, List, length, map, get_or, refl, ap, sym, ◌∙◌}
use Rattle.std.specs.Prelude.{All, Any, IsTrue, IsSome, filter, option_map, is_some, position, ℤ}
use Rattle.std.proofs.lemmas.Bool.{false≢true, eqb-true}
use Rattle.std.proofs.lemmas.List.{get_or_default}
use Rattle.std.proofs.lemmas.List.Elements.{All-map, All-filter, All-weaker}
use Rattle.std.proofs.lemmas.List.Folds.{Any-from_list_any}
use Rattle.attr_check.specs.ParamsView.{ParamsView}
use Rattle.cbs_rules.specs.declared.server.Server.{Server}
use Rattle.cbs_rules.specs.Budget.{below_zero}
use Rattle.cbs_rules.specs.Serving.{renewed, overflows, woken_at, woken, charged, is_spent, postponed, replenished_while, replenished}
use Rattle.edf_pick.specs.Places.{Places, is_task, is_on_cpu, placed}
use Rattle.task_script.specs.declared.script.Segment.{Segment}
use Rattle.task_script.specs.declared.script.Segment.TheVariants.{Run as RunFor, Until, Wait as WaitFor, End}
use Rattle.task_script.specs.script.Segments.{next_segment}
use Rattle.domain_run.specs.declared.task.Task.{Task}
use Rattle.domain_run.specs.declared.task.Condition.{Condition}
use Rattle.domain_run.specs.declared.task.Condition.TheVariants.{Ready, Throttled, Blocked, Waiting, Leaving}
use Rattle.domain_run.specs.Conditions.{is_ready, is_throttled, is_contending, is_over, has_come}
use Rattle.domain_run.specs.Parts.{replenish_due, settled, is_listed, enqueued, started, starts, unblocked, with_cpu, with_last_cpu, running_on, went_on, goes_on, after_charge, ran}
use Rattle.domain_run.specs.Domain.{Domain}
use Rattle.domain_run.specs.Tick.{candidates, prepared, with_tick_begun, rate_of, ran_if, ticked, ticks}
use Rattle.domain_run.specs.Sound.{HasNoTaskTwice, IsDomain, IsSound}
use Rattle.domain_run.proofs.CallerLemmas.{AreNumbered, AreCandidates, placed_is, ready_in, runs_at, one_index, ticked_numbered, prepared_apart}

-- a task that contends has a deadline; every domain keeps that of its tasks
abbrev pub IsDated : Task → Type 0
IsDated t = IsTrue (is_contending t.condition) → IsSome t.server.deadline

abbrev pub AreDated : List Task → Type 0
AreDated tasks = All IsDated tasks

-- what the law needs of a domain, a part of what every domain keeps
pub record IsShiftable (d : Domain) : Type 0 where
  pub dated : AreDated d.tasks
  pub numbered : AreNumbered d.tasks
  pub wide : length d.curr ≡ d.cpus
  pub apart : HasNoTaskTwice d.curr

pub ready_contends : (c : Condition) → IsTrue (is_ready c) → IsTrue (is_contending c)
ready_contends Ready is = refl
ready_contends Throttled is = refl
ready_contends (Blocked u) is = is
ready_contends Waiting is = is
ready_contends Leaving is = is

-- ---- one task

some_map : (f : ℕ → ℕ) (o : Option ℕ) → is_some (option_map f o) ≡ is_some o
some_map f None = refl
some_map f (Some d) = refl

replenished_while_some : (p : ParamsView) (spent : Bool) (turns : ℕ) (s : Server) → IsSome s.deadline → IsSome (replenished_while spent turns p s).deadline
replenished_while_some p false turns s h = h
replenished_while_some p true zero s h = h
replenished_while_some p true (suc turns) s h = replenished_while_some p (is_spent (postponed p s)) turns (postponed p s) (some_map (λ d. d + p.period) s.deadline ∙ h)

pub replenished_some : (p : ParamsView) (s : Server) → IsSome s.deadline → IsSome (replenished p s).deadline
replenished_some p s h = replenished_while_some p (is_spent s) (below_zero s.left + 1) s h

pub come_some : (time : ℕ) (o : Option ℕ) → has_come time o ≡ true → IsSome o
come_some time None e = e
come_some time (Some z) e = refl

pub and_right : (a b : Bool) → (a && b) ≡ true → b ≡ true
and_right true b e = e
and_right false b e = absurd (false≢true e)

pub replenish_due_dated : (time : ℕ) (t : Task) → IsDated t → IsDated (replenish_due time t)
replenish_due_dated time t h =
    let b = is_throttled t.condition && has_come time t.server.deadline in
    elim b as (λ x. b ≡ x → IsDated (cond x (record t { server = replenished t.params t.server; condition = Ready }) t)) [
      | true ↦ λ e is. replenished_some t.params t.server (come_some time t.server.deadline (and_right (is_throttled t.condition) (has_come time t.server.deadline) e))
      | false ↦ λ e. h
    ] refl

settled_dated : (time : ℕ) (t : Task) → IsDated t → IsDated (settled time t)
settled_dated time t h = elim (has_come time t.zero_lag) as (λ b. IsDated (cond b (record t { zero_lag = None }) t)) [ true ↦ h | false ↦ h ]

woken_some : (p : ParamsView) (time : ℕ) (o : Option ℕ) (left : ℤ) → IsSome (woken_at p time o left).deadline
woken_some p time None left = refl
woken_some p time (Some d) left =
    let kept : Server = record { deadline = Some d; left = left } in
    elim (overflows p time d left) as (λ b. IsSome (cond b (renewed p time) kept).deadline) [ true ↦ refl | false ↦ refl ]

enqueued_dated : (time : ℕ) (s : Server) (t : Task) → IsSome s.deadline → IsDated (enqueued time s t)
enqueued_dated time s t h =
    let x : Task = record t { server = replenished t.params s; condition = Ready } in
    let y : Task = record t { server = s; condition = Throttled } in
    let z : Task = record t { server = s; condition = Ready } in
    elim (is_spent s) as (λ a. IsDated (cond a (cond (has_come time s.deadline) x y) z)) [
      | true ↦ elim (has_come time s.deadline) as (λ b. IsDated (cond b x y)) [ true ↦ λ is. replenished_some t.params s h | false ↦ λ is. h ]
      | false ↦ λ is. h
    ]

started_dated : (time : ℕ) (a : Segment) (t : Task) → IsDated (started time a t)
started_dated time (RunFor n) t = enqueued_dated time (woken t.params time t.server) (record t { zero_lag = None; work = n }) (woken_some t.params time t.server.deadline t.server.left)
started_dated time (Until u) t = λ is. absurd (false≢true is)
started_dated time WaitFor t = λ is. absurd (false≢true is)
started_dated time End t = λ is. absurd (false≢true is)

pub unblocked_dated : (time : ℕ) (t : Task) → IsDated t → IsDated (unblocked time t)
unblocked_dated time t h =
    let a = next_segment t.cursor time in
    elim (is_over time t.condition) as (λ b. IsDated (cond b (starts time t a) t)) [ true ↦ started_dated time a.segment (record t { cursor = a.cursor }) | false ↦ h ]

each_dated : (f : Task → Task) → ((t : Task) → IsDated t → IsDated (f t)) → (ts : List Task) → AreDated ts → AreDated (map f ts)
each_dated f keeps ts h = All-map IsDated f ts (All-weaker IsDated (λ t. IsDated (f t)) keeps ts h)

pub prepared_dated : (time : ℕ) (ts : List Task) → AreDated ts → AreDated (prepared time ts)
prepared_dated time ts h =
    let one = map (replenish_due time) ts in
    let two = map (settled time) one in
    each_dated (unblocked time) (unblocked_dated time) (filter is_listed two)
    (All-filter is_listed IsDated two (each_dated (settled time) (settled_dated time) one (each_dated (replenish_due time) (replenish_due_dated time) ts h)))

-- ---- who runs is ready, so it has a deadline

went_on_deadline : (time : ℕ) (a : Segment) (t : Task) → (went_on time a t).server.deadline ≡ t.server.deadline
went_on_deadline time (RunFor n) t = refl
went_on_deadline time (Until u) t = refl
went_on_deadline time WaitFor t = refl
went_on_deadline time End t = refl

after_charge_deadline : (time : ℕ) (t : Task) → (after_charge time t).server.deadline ≡ t.server.deadline
after_charge_deadline time t =
    let a = next_segment t.cursor time in
    elim (eqb t.work 0) as (λ b. (cond b (goes_on time t a) (running_on t)).server.deadline ≡ t.server.deadline) [
      | true ↦ went_on_deadline time a.segment (record t { cursor = a.cursor })
      | false ↦ refl
    ]

pub ran_dated : (time rate : ℕ) (t : Task) → IsSome t.server.deadline → IsDated (ran time rate t)
ran_dated time rate t h is = ap (λ o. is_some o) (after_charge_deadline (time + 1) (record t { server = charged rate 1 t.server; work = t.work - 1 })) ∙ h

ran_if_dated : (e : Domain) (t : Task) → IsDated t → (IsTrue (is_on_cpu t.number e.curr) → IsTrue (is_ready t.condition)) → IsDated (ran_if e t)
ran_if_dated e t h ready =
    let b = is_on_cpu t.number e.curr in
    elim b as (λ x. b ≡ x → IsDated (cond x (ran e.time (rate_of e t) t) t)) [
      | true ↦ λ s. ran_dated e.time (rate_of e t) t (h (ready_contends t.condition (ready s)))
      | false ↦ λ s. h
    ] refl

homed_dated : (e : Domain) (o : Option ℕ) (t : Task) → IsDated t → (IsTrue (is_on_cpu t.number e.curr) → IsTrue (is_ready t.condition)) → IsDated (ran_if e (with_cpu o t))
homed_dated e None t h ready = ran_if_dated e t h ready
homed_dated e (Some cpu) t h ready = ran_if_dated e (record t { cpu = cpu }) h ready

and_both : (a b : Bool) → (a && b) ≡ true → (a ≡ true) × (b ≡ true)
and_both true b e = (refl, e)
and_both false b e = absurd (false≢true e)

ready_one : (ts : List Task) (i n : ℕ) (t : Task) → AreNumbered ts → i < length ts → (get_or ts i t).number ≡ n → Any (λ u. (eqb u.number n && is_ready u.condition) ≡ true) ts → IsTrue (is_ready (get_or ts i t).condition)
ready_one ts i n t numbered h e (j, u, within, same, test) =
    let facts = and_both (eqb u.number n) (is_ready u.condition) test in
    let there_is : get_or ts j t ≡ u = get_or_default ts j t u within ∙ same in
    let i_is : i ≡ j = one_index ts i j t u numbered h within (e ∙ sym (ap (λ (x : Task). x.number) there_is ∙ eqb-true u.number n facts.0)) in
    ap (λ (x : Task). is_ready x.condition) (ap (λ k. get_or ts k t) i_is ∙ there_is) ∙ facts.1

running_ready : (ts : List Task) (places : Places) → AreNumbered ts → AreCandidates (candidates ts) places → All (λ t. IsTrue (is_on_cpu t.number places) → IsTrue (is_ready t.condition)) ts
running_ready ts places numbered is i x within h =
    let n = (get_or ts i x).number in
    let at = runs_at n places (Any-from_list_any (is_task n) places h) in
    ready_one ts i n x numbered within refl (Any-from_list_any (λ u. eqb u.number n && is_ready u.condition) ts (ready_in n ts (is.each at.0 n at.1)))

homed_running : (places : Places) (o : Option ℕ) (t : Task) → IsDated t → (IsTrue (is_on_cpu t.number places) → IsTrue (is_ready t.condition)) → IsTrue (is_on_cpu (with_cpu o t).number places) → IsSome (with_cpu o t).server.deadline
homed_running places None t h ready s = h (ready_contends t.condition (ready s))
homed_running places (Some cpu) t h ready s = h (ready_contends t.condition (ready s))

-- the task that runs on a CPU in a tick that begins has a deadline
pub running_dated : (d : Domain) → IsShiftable d → All (λ t. IsTrue (is_on_cpu t.number (with_tick_begun d).curr) → IsSome t.server.deadline) (with_tick_begun d).tasks
running_dated d is =
    let ts = prepared d.time d.tasks in
    let places = placed d.cpus (candidates ts) d.curr in
    let seats = placed_is d.cpus (candidates ts) d.curr is.wide is.apart in
    let dated = prepared_dated d.time d.tasks is.dated in
    let ready = running_ready ts places (prepared_apart d.time d.tasks is.numbered) seats.candidates in
    All-map (λ t. IsTrue (is_on_cpu t.number places) → IsSome t.server.deadline) (with_last_cpu places) ts (λ k x within. let t = get_or ts k x in homed_running places (position (is_task t.number) places) t (dated k x within) (ready k x within))

homed_ready : (places : Places) (o : Option ℕ) (t : Task) → (IsTrue (is_on_cpu t.number places) → IsTrue (is_ready t.condition)) → IsTrue (is_on_cpu (with_cpu o t).number places) → IsTrue (is_ready (with_cpu o t).condition)
homed_ready places None t ready = ready
homed_ready places (Some cpu) t ready = ready

-- and is ready
pub running_all : (d : Domain) → IsShiftable d → All (λ t. IsTrue (is_on_cpu t.number (with_tick_begun d).curr) → IsTrue (is_ready t.condition)) (with_tick_begun d).tasks
running_all d is =
    let ts = prepared d.time d.tasks in
    let places = placed d.cpus (candidates ts) d.curr in
    let seats = placed_is d.cpus (candidates ts) d.curr is.wide is.apart in
    let ready = running_ready ts places (prepared_apart d.time d.tasks is.numbered) seats.candidates in
    All-map (λ t. IsTrue (is_on_cpu t.number places) → IsTrue (is_ready t.condition)) (with_last_cpu places) ts (λ k x within. let t = get_or ts k x in homed_ready places (position (is_task t.number) places) t (ready k x within))

-- who may ask a script
pub left_dated : (time : ℕ) (ts : List Task) → AreDated ts → AreDated (filter is_listed (map (settled time) (map (replenish_due time) ts)))
left_dated time ts h =
    let one = map (replenish_due time) ts in
    let two = map (settled time) one in
    All-filter is_listed IsDated two (each_dated (settled time) (settled_dated time) one (each_dated (replenish_due time) (replenish_due_dated time) ts h))

-- ---- a tick, and ticks

pub ticked_shiftable : (d : Domain) → IsShiftable d → IsShiftable (ticked d)
ticked_shiftable d is =
    let ts = prepared d.time d.tasks in
    let places = placed d.cpus (candidates ts) d.curr in
    let e = with_tick_begun d in
    let seats = placed_is d.cpus (candidates ts) d.curr is.wide is.apart in
    let dated = prepared_dated d.time d.tasks is.dated in
    let ready = running_ready ts places (prepared_apart d.time d.tasks is.numbered) seats.candidates in
    record {
      dated = All-map IsDated (ran_if e) (map (with_last_cpu places) ts) (All-map (λ t. IsDated (ran_if e t)) (with_last_cpu places) ts (λ k x within. let t = get_or ts k x in homed_dated e (position (is_task t.number) places) t (dated k x within) (ready k x within)));
      numbered = ticked_numbered d is.numbered;
      wide = seats.wide;
      apart = seats.apart;
    }

pub ticks_shiftable : (n : ℕ) (d : Domain) → IsShiftable d → IsShiftable (ticks n d)
ticks_shiftable zero d is = is
ticks_shiftable (suc n) d is = ticked_shiftable (ticks n d) (ticks_shiftable n d is)

pub shiftable_of : (d : Domain) → IsDomain d → IsShiftable d
shiftable_of d is = record {
  dated = All-weaker (IsSound d.time) IsDated (λ t h. h.dated) d.tasks is.steady.sound;
  numbered = is.steady.numbered;
  wide = is.steady.wide;
  apart = is.steady.apart;
}
