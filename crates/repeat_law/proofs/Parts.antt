-- What each part of a tick does to one task, later.
use Rattle.std.proofs.Common.{◌≡◌, ℕ, ◌+◌, ◌-◌, ◌<◌, true, false, cond, ◌&&◌, eqb, Option, Some, None, refl, ap, sym, ◌∙◌, arith}
use Rattle.std.specs.Prelude.{is_some, not, position}
use Rattle.std.proofs.lemmas.Bool.{false≢true}
use Rattle.cbs_rules.specs.declared.server.Server.{Server}
use Rattle.cbs_rules.specs.Serving.{replenished, woken, charged, is_spent}
use Rattle.edf_pick.specs.Places.{Places, is_task}
use Rattle.task_script.specs.declared.script.Segment.{Segment}
use Rattle.task_script.specs.declared.script.Segment.TheVariants.{Run as RunFor, Until, Wait as WaitFor, End}
use Rattle.task_script.specs.script.Segments.{SegmentAndCursor, next_segment}
use Rattle.domain_run.specs.declared.task.Task.{Task}
use Rattle.domain_run.specs.declared.task.Condition.{Condition}
use Rattle.domain_run.specs.declared.task.Condition.TheVariants.{Ready, Throttled, Blocked, Waiting, Leaving}
use Rattle.domain_run.specs.Conditions.{is_throttled, is_contending, is_leaving, is_over, has_come}
use Rattle.domain_run.specs.Parts.{replenish_due, settled, is_listed, enqueued, woken_task, started, starts, unblocked, with_cpu, with_last_cpu, running_on, stopped, went_on, goes_on, after_charge, ran}
use Rattle.domain_run.specs.Switches.{left_in}
use Rattle.task_script.specs.script.Later.{later_cursor, HasRounds}
use Rattle.domain_run.specs.Later.{later, later_server, later_condition, later_task}
use Rattle.repeat_law.proofs.Lists.{choice_over, choice_over2, le_later}
use Rattle.repeat_law.proofs.Serving.{swap_add, woken_later, replenished_later, zero_lag_later}
use Rattle.repeat_law.proofs.Asking.{later_segment, later_ask, next_later}
-- passed on to the files above
pub use Rattle.domain_run.proofs.CallerLemmas.{ready_later, throttled_later, contending_later}

-- ---- conditions

leaving_later : (k : ℕ) (c : Condition) → is_leaving (later_condition k c) ≡ is_leaving c
leaving_later k Ready = refl
leaving_later k Throttled = refl
leaving_later k (Blocked u) = refl
leaving_later k Waiting = refl
leaving_later k Leaving = refl

pub left_in_later : (k : ℕ) (c : Condition) → left_in (later_condition k c) ≡ left_in c
left_in_later k Ready = refl
left_in_later k Throttled = refl
left_in_later k (Blocked u) = refl
left_in_later k Waiting = refl
left_in_later k Leaving = refl

pub over_later : (k time : ℕ) (c : Condition) → is_over (time + k) (later_condition k c) ≡ is_over time c
over_later k time Ready = refl
over_later k time Throttled = refl
over_later k time (Blocked u) = le_later u time k
over_later k time Waiting = refl
over_later k time Leaving = refl

-- who contends is not blocked
pub contending_not_over : (time : ℕ) (c : Condition) → is_contending c ≡ true → is_over time c ≡ false
contending_not_over time Ready is = refl
contending_not_over time Throttled is = refl
contending_not_over time (Blocked u) is = absurd (false≢true is)
contending_not_over time Waiting is = refl
contending_not_over time Leaving is = refl

pub come_later : (k time : ℕ) (o : Option ℕ) → has_come (time + k) (later k o) ≡ has_come time o
come_later k time None = refl
come_later k time (Some z) = le_later z time k

pub some_later : (k : ℕ) (o : Option ℕ) → is_some (later k o) ≡ is_some o
some_later k None = refl
some_later k (Some z) = refl

-- ---- the parts that ask no script, for a task some rounds further on and with some work done

module _ (k r w : ℕ) where
  -- PART 1
  pub replenish_due_later : (time : ℕ) (t : Task) → replenish_due (time + k) (later_task k r w t) ≡ later_task k r w (replenish_due time t)
  replenish_due_later time t =
      let a = throttled_later k t.condition in
      let b = come_later k time t.server.deadline in
      let s = replenished_later k t.params t.server in
      (λ i. cond (a i && b i) (record (later_task k r w t) { server = s i; condition = Ready }) (later_task k r w t))
      ∙ choice_over (later_task k r w) (is_throttled t.condition && has_come time t.server.deadline) (record t { server = replenished t.params t.server; condition = Ready }) t

  -- PART 2
  pub settled_later : (time : ℕ) (t : Task) → settled (time + k) (later_task k r w t) ≡ later_task k r w (settled time t)
  settled_later time t =
      let b = come_later k time t.zero_lag in
      (λ i. cond (b i) (record (later_task k r w t) { zero_lag = None }) (later_task k r w t))
      ∙ choice_over (later_task k r w) (has_come time t.zero_lag) (record t { zero_lag = None }) t

  pub listed_later : (t : Task) → is_listed (later_task k r w t) ≡ is_listed t
  listed_later t =
      let a = leaving_later k t.condition in
      let b = some_later k t.zero_lag in
      λ i. not (a i && not (b i))

  -- PART 3
  enqueued_later : (time : ℕ) (s : Server) (t : Task) → enqueued (time + k) (later_server k s) (later_task k r w t) ≡ later_task k r w (enqueued time s t)
  enqueued_later time s t =
      let b = come_later k time s.deadline in
      let x = replenished_later k t.params s in
      (λ i. cond (is_spent s) (cond (b i) (record (later_task k r w t) { server = x i; condition = Ready }) (record (later_task k r w t) { server = later_server k s; condition = Throttled })) (record (later_task k r w t) { server = later_server k s; condition = Ready }))
      ∙ choice_over2 (later_task k r w) (is_spent s) (has_come time s.deadline) (record t { server = replenished t.params s; condition = Ready }) (record t { server = s; condition = Throttled }) (record t { server = s; condition = Ready })

  -- PART 4
  with_cpu_later : (o : Option ℕ) (t : Task) → with_cpu o (later_task k r w t) ≡ later_task k r w (with_cpu o t)
  with_cpu_later None t = refl
  with_cpu_later (Some cpu) t = refl

  pub with_last_cpu_later : (places : Places) (t : Task) → with_last_cpu places (later_task k r w t) ≡ later_task k r w (with_last_cpu places t)
  with_last_cpu_later places t = with_cpu_later (position (is_task t.number) places) t

  -- PART 6
  running_on_later : (t : Task) → running_on (later_task k r w t) ≡ later_task k r w (running_on t)
  running_on_later t = let e = choice_over (later_condition k) (is_spent t.server) Throttled Ready in λ i. record (later_task k r w t) { condition = e i }

  stopped_later : (time : ℕ) (c : Condition) (t : Task) → stopped (time + k) (later_condition k c) (later_task k r w t) ≡ later_task k r w (stopped time c t)
  stopped_later time c t = let z = zero_lag_later k t.params time t.server in λ i. record (later_task k r w t) { condition = later_condition k c; zero_lag = z i }

  -- what a tick of running begins with
  pub charged_later : (rate : ℕ) (t : Task) → record (later_task k r w t) { server = charged rate 1 (later_task k r w t).server; work = (later_task k r w t).work - 1 } ≡ later_task k r w (record t { server = charged rate 1 t.server; work = t.work - 1 })
  charged_later rate t =
      let less : t.work - w - 1 ≡ t.work - 1 - w = omega arith in
      λ i. record (later_task k r w t) { server = charged rate 1 (later_server k t.server); work = less i }

-- ---- the parts that ask a script, for a task whose work is as it was

pub same_work : (n : ℕ) → n ≡ n - 0
same_work n = omega arith

module _ (k r : ℕ) where
  woken_task_later : (time n : ℕ) (t : Task) → woken_task (time + k) n (later_task k r 0 t) ≡ later_task k r 0 (woken_task time n t)
  woken_task_later time n t =
      let x = woken_later k t.params time t.server in
      let z = same_work n in
      (λ i. enqueued (time + k) (x i) (record (later_task k r 0 t) { zero_lag = None; work = z i }))
      ∙ enqueued_later k r 0 time (woken t.params time t.server) (record t { zero_lag = None; work = n })

  started_later : (time : ℕ) (a : Segment) (t : Task) → started (time + k) (later_segment k a) (later_task k r 0 t) ≡ later_task k r 0 (started time a t)
  started_later time (RunFor n) t = woken_task_later time n t
  started_later time (Until u) t = refl
  started_later time WaitFor t = refl
  started_later time End t = refl

  starts_later : (time : ℕ) (t : Task) (a : SegmentAndCursor) → starts (time + k) (later_task k r 0 t) (later_ask k r a) ≡ later_task k r 0 (starts time t a)
  starts_later time t a = started_later time a.segment (record t { cursor = a.cursor })

  pub unblocked_plays : (time : ℕ) (t : Task) → (is_over time t.condition ≡ true → 0 < r → HasRounds r (next_segment t.cursor time).cursor) → unblocked (time + k) (later_task k r 0 t) ≡ later_task k r 0 (unblocked time t)
  unblocked_plays time t left =
      let u = later_task k r 0 t in
      let a = next_segment t.cursor time in
      let over = over_later k time t.condition in
      let asked = starts (time + k) u (next_segment (later_cursor k r t.cursor) (time + k)) in
      (λ i. cond (over i) asked u)
      ∙ (elim (is_over time t.condition) as (λ b. is_over time t.condition ≡ b → cond b asked u ≡ later_task k r 0 (cond b (starts time t a) t)) [
        | true ↦ λ e. let gives = next_later k r t.cursor time (left e) in (λ i. starts (time + k) u (gives i)) ∙ starts_later time t a
        | false ↦ λ e. refl
      ] refl)

  went_on_later : (time : ℕ) (a : Segment) (t : Task) → went_on (time + k) (later_segment k a) (later_task k r 0 t) ≡ later_task k r 0 (went_on time a t)
  went_on_later time (RunFor n) t = let z = same_work n in (λ i. running_on (record (later_task k r 0 t) { work = z i })) ∙ running_on_later k r 0 (record t { work = n })
  went_on_later time (Until u) t = stopped_later k r 0 time (Blocked u) t
  went_on_later time WaitFor t = stopped_later k r 0 time Waiting t
  went_on_later time End t = stopped_later k r 0 time Leaving t

  goes_on_later : (time : ℕ) (t : Task) (a : SegmentAndCursor) → goes_on (time + k) (later_task k r 0 t) (later_ask k r a) ≡ later_task k r 0 (goes_on time t a)
  goes_on_later time t a = went_on_later time a.segment (record t { cursor = a.cursor })

  after_charge_plays : (time : ℕ) (t : Task) → (eqb t.work 0 ≡ true → 0 < r → HasRounds r (next_segment t.cursor time).cursor) → after_charge (time + k) (later_task k r 0 t) ≡ later_task k r 0 (after_charge time t)
  after_charge_plays time t left =
      let u = later_task k r 0 t in
      let a = next_segment t.cursor time in
      let z = same_work t.work in
      let asked = goes_on (time + k) u (next_segment (later_cursor k r t.cursor) (time + k)) in
      sym (λ i. cond (eqb (z i) 0) asked (running_on u))
      ∙ (elim (eqb t.work 0) as (λ b. eqb t.work 0 ≡ b → cond b asked (running_on u) ≡ later_task k r 0 (cond b (goes_on time t a) (running_on t))) [
        | true ↦ λ e. let gives = next_later k r t.cursor time (left e) in (λ i. goes_on (time + k) u (gives i)) ∙ goes_on_later time t a
        | false ↦ λ e. running_on_later k r 0 t
      ] refl)

  pub ran_plays : (time rate : ℕ) (t : Task) → (eqb (t.work - 1) 0 ≡ true → 0 < r → HasRounds r (next_segment t.cursor (time + 1)).cursor) → ran (time + k) rate (later_task k r 0 t) ≡ later_task k r 0 (ran time rate t)
  ran_plays time rate t left =
      let e = swap_add time 1 k in
      let u = charged_later k r 0 rate t in
      (λ i. after_charge (e i) (u i)) ∙ after_charge_plays (time + 1) (record t { server = charged rate 1 t.server; work = t.work - 1 }) left

-- ---- and for a task whose work lasts: it asks nothing

pub unblocked_contending : (time : ℕ) (t : Task) → is_contending t.condition ≡ true → unblocked time t ≡ t
unblocked_contending time t is = let over = contending_not_over time t.condition is in λ i. cond (over i) (starts time t (next_segment t.cursor time)) t

pub more_work : (a w : ℕ) → w < a → eqb (a - w) 0 ≡ false
more_work a w h = grind (arith, h)

pub some_work : (a w : ℕ) → w < a → eqb a 0 ≡ false
some_work a w h = grind (arith, h)

module _ (k w : ℕ) where
  pub unblocked_works : (time : ℕ) (t : Task) → is_contending t.condition ≡ true → unblocked (time + k) (later_task k 0 w t) ≡ later_task k 0 w (unblocked time t)
  unblocked_works time t is =
      unblocked_contending (time + k) (later_task k 0 w t) (contending_later k t.condition ∙ is)
      ∙ sym (ap (later_task k 0 w) (unblocked_contending time t is))

  after_charge_works : (time : ℕ) (t : Task) → w < t.work → after_charge (time + k) (later_task k 0 w t) ≡ later_task k 0 w (after_charge time t)
  after_charge_works time t h =
      let u = later_task k 0 w t in
      let a = more_work t.work w h in
      let b = some_work t.work w h in
      (λ i. cond (a i) (goes_on (time + k) u (next_segment u.cursor (time + k))) (running_on u))
      ∙ running_on_later k 0 w t
      ∙ sym (λ i. later_task k 0 w (cond (b i) (goes_on time t (next_segment t.cursor time)) (running_on t)))

  pub ran_works : (time rate : ℕ) (t : Task) → w < t.work - 1 → ran (time + k) rate (later_task k 0 w t) ≡ later_task k 0 w (ran time rate t)
  ran_works time rate t h =
      let e = swap_add time 1 k in
      let u = charged_later k 0 w rate t in
      (λ i. after_charge (e i) (u i)) ∙ after_charge_works (time + 1) (record t { server = charged rate 1 t.server; work = t.work - 1 }) h
