-- What each part of a tick does to a task at each pace.
use Rattle.std.proofs.Common.{◌≡◌, ℕ, zero, suc, ◌+◌, ◌-◌, ◌<◌, ◌≤◌, true, false, cond, ◌&&◌, eqb, Option, Some, None, refl, ap, sym, subst, ◌∙◌, arith}
use Rattle.std.specs.Prelude.{IfSome, position}
use Rattle.std.proofs.lemmas.Bool.{false≢true}
use Rattle.cbs_rules.specs.declared.server.Server.{Server}
use Rattle.cbs_rules.specs.Serving.{replenished, woken, charged, is_spent}
use Rattle.edf_pick.specs.Places.{Places, is_task}
use Rattle.task_script.specs.declared.script.Segment.{Segment}
use Rattle.task_script.specs.declared.script.Segment.TheVariants.{Run as RunFor, Until, Wait as WaitFor, End}
use Rattle.task_script.specs.script.ScriptView.{CursorView}
use Rattle.task_script.specs.script.Segments.{next_segment}
use Rattle.domain_run.specs.declared.task.Task.{Task}
use Rattle.domain_run.specs.declared.task.Condition.TheVariants.{Ready, Throttled}
use Rattle.domain_run.specs.Conditions.{is_ready, is_throttled, is_over, has_come}
use Rattle.domain_run.specs.Parts.{replenish_due, settled, is_listed, enqueued, started, starts, unblocked, with_cpu, with_last_cpu, running_on, went_on, goes_on, after_charge, ran}
use Rattle.domain_run.specs.Later.{later_task}
use Rattle.domain_run.specs.declared.pace.Pace.{Pace}
use Rattle.domain_run.specs.declared.pace.Pace.TheVariants.{Rests, Plays, Works}
use Rattle.task_script.specs.script.Later.{HasRounds}
use Rattle.domain_run.specs.Shift.{paced_task, IsResting, MayGo}
use Rattle.repeat_law.proofs.Asking.{IsOn, next_is_on, rounds_left}
use Rattle.repeat_law.proofs.Parts.{replenish_due_later, settled_later, listed_later, unblocked_plays, ran_plays, unblocked_contending, unblocked_works, ran_works, some_work}

-- a fact of a task as it is, and of each later one
pub by_pace : (P : Task → Type 0) (k : ℕ) (p : Pace) (t : Task) → P t → ((r w : ℕ) → P (later_task k r w t)) → P (paced_task k p t)
by_pace P k Rests t here there = here
by_pace P k (Plays r) t here there = there r 0
by_pace P k (Works w) t here there = there 0 w

pub number_paced : (k : ℕ) (p : Pace) (t : Task) → (paced_task k p t).number ≡ t.number
number_paced k p t = by_pace (λ u. u.number ≡ t.number) k p t refl (λ r w. refl)

-- ---- what a part does to a task that rests: nothing

replenish_due_alone : (time : ℕ) (t : Task) → IsResting t → replenish_due time t ≡ t
replenish_due_alone time t is = let c = is.waits in λ i. cond (is_throttled (c i) && has_come time t.server.deadline) (record t { server = replenished t.params t.server; condition = Ready }) t

settled_alone : (time : ℕ) (t : Task) → IsResting t → settled time t ≡ t
settled_alone time t is = let z = is.idle in λ i. cond (has_come time (z i)) (record t { zero_lag = None }) t

pub unblocked_alone : (time : ℕ) (t : Task) → IsResting t → unblocked time t ≡ t
unblocked_alone time t is = let c = is.waits in λ i. cond (is_over time (c i)) (starts time t (next_segment t.cursor time)) t

pub never_ready : (t : Task) → IsResting t → is_ready t.condition ≡ true → false ≡ true
never_ready t is e = sym (ap is_ready is.waits) ∙ e

-- ---- the cursor, part by part

started_cursor : (time : ℕ) (a : Segment) (t : Task) → (started time a t).cursor ≡ t.cursor
started_cursor time (RunFor n) t = enqueued_cursor (woken t.params time t.server) (record t { zero_lag = None; work = n })
  where
    enqueued_cursor : (s : Server) (u : Task) → (enqueued time s u).cursor ≡ u.cursor
    enqueued_cursor s u =
        let x : Task = record u { server = replenished u.params s; condition = Ready } in
        let y : Task = record u { server = s; condition = Throttled } in
        let z : Task = record u { server = s; condition = Ready } in
        elim (is_spent s) as (λ a. (cond a (cond (has_come time s.deadline) x y) z).cursor ≡ u.cursor) [
          | true ↦ elim (has_come time s.deadline) as (λ b. (cond b x y).cursor ≡ u.cursor) [ true ↦ refl | false ↦ refl ]
          | false ↦ refl
        ]
started_cursor time (Until u) t = refl
started_cursor time WaitFor t = refl
started_cursor time End t = refl

unblocked_cursor : (time : ℕ) (t : Task) → is_over time t.condition ≡ true → (unblocked time t).cursor ≡ (next_segment t.cursor time).cursor
unblocked_cursor time t over =
    let a = next_segment t.cursor time in
    ap (λ b. (cond b (starts time t a) t).cursor) over ∙ started_cursor time a.segment (record t { cursor = a.cursor })

went_on_cursor : (time : ℕ) (a : Segment) (t : Task) → (went_on time a t).cursor ≡ t.cursor
went_on_cursor time (RunFor n) t = refl
went_on_cursor time (Until u) t = refl
went_on_cursor time WaitFor t = refl
went_on_cursor time End t = refl

after_charge_cursor : (time : ℕ) (t : Task) → eqb t.work 0 ≡ true → (after_charge time t).cursor ≡ (next_segment t.cursor time).cursor
after_charge_cursor time t over =
    let a = next_segment t.cursor time in
    ap (λ b. (cond b (goes_on time t a) (running_on t)).cursor) over ∙ went_on_cursor time a.segment (record t { cursor = a.cursor })

abbrev pub charged_task : ℕ → Task → Task
charged_task rate t = record t { server = charged rate 1 t.server; work = t.work - 1 }

ran_cursor : (time rate : ℕ) (t : Task) → eqb (t.work - 1) 0 ≡ true → (ran time rate t).cursor ≡ (next_segment t.cursor (time + 1)).cursor
ran_cursor time rate t over = after_charge_cursor (time + 1) (charged_task rate t) over

pub ran_on_work : (time rate : ℕ) (t : Task) → eqb (t.work - 1) 0 ≡ false → ran time rate t ≡ running_on (charged_task rate t)
ran_on_work time rate t more =
    let u = charged_task rate t in
    λ i. cond (more i) (goes_on (time + 1) u (next_segment u.cursor (time + 1))) (running_on u)

-- it goes on in its script
pub is_on_itself : (c e : CursorView) → e ≡ c → IsOn c.place c e
is_on_itself c e same = subst (λ x. IsOn c.place c x) (sym same) (record { script = refl; on = go c.script.rounds })
  where
    go : (rounds : Option ℕ) → IfSome rounds (λ n. c.place ≤ c.place)
    go None = tt
    go (Some n) = omega arith

pub unblocked_is_on : (time : ℕ) (t : Task) → IsOn t.cursor.place t.cursor (unblocked time t).cursor
unblocked_is_on time t =
    let a = next_segment t.cursor time in
    elim (is_over time t.condition) as (λ b. IsOn t.cursor.place t.cursor (cond b (starts time t a) t).cursor) [
      | true ↦ subst (λ x. IsOn t.cursor.place t.cursor x) (sym (started_cursor time a.segment (record t { cursor = a.cursor }))) (next_is_on t.cursor time)
      | false ↦ is_on_itself t.cursor t.cursor refl
    ]

pub ran_is_on : (time rate : ℕ) (t : Task) → IsOn t.cursor.place t.cursor (ran time rate t).cursor
ran_is_on time rate t =
    let u = charged_task rate t in
    let a = next_segment t.cursor (time + 1) in
    elim (eqb u.work 0) as (λ b. IsOn t.cursor.place t.cursor (cond b (goes_on (time + 1) u a) (running_on u)).cursor) [
      | true ↦ subst (λ x. IsOn t.cursor.place t.cursor x) (sym (went_on_cursor (time + 1) a.segment (record u { cursor = a.cursor }))) (next_is_on t.cursor (time + 1))
      | false ↦ is_on_itself t.cursor t.cursor refl
    ]

pub rounds_before : (r : ℕ) (c e : CursorView) → IsOn c.place c e → HasRounds r e → HasRounds r c
rounds_before r c e is left = rounds_left r c.place c e is left

-- ---- who may go at a pace may go on

pub go_replenished : (time : ℕ) (p : Pace) (t : Task) → MayGo p t → MayGo p (replenish_due time t)
go_replenished time Rests t h = subst IsResting (sym (replenish_due_alone time t h)) h
go_replenished time (Plays r) t h =
    let x : Task = record t { server = replenished t.params t.server; condition = Ready } in
    elim (is_throttled t.condition && has_come time t.server.deadline) as (λ b. 0 < r → HasRounds r (cond b x t).cursor) [ true ↦ h | false ↦ h ]
go_replenished time (Works w) t h =
    let x : Task = record t { server = replenished t.params t.server; condition = Ready } in
    elim (is_throttled t.condition && has_come time t.server.deadline) as (λ b. MayGo (Works w) (cond b x t)) [ true ↦ (refl, h.1) | false ↦ h ]

pub go_settled : (time : ℕ) (p : Pace) (t : Task) → MayGo p t → MayGo p (settled time t)
go_settled time Rests t h = subst IsResting (sym (settled_alone time t h)) h
go_settled time (Plays r) t h = elim (has_come time t.zero_lag) as (λ b. 0 < r → HasRounds r (cond b (record t { zero_lag = None }) t).cursor) [ true ↦ h | false ↦ h ]
go_settled time (Works w) t h = elim (has_come time t.zero_lag) as (λ b. MayGo (Works w) (cond b (record t { zero_lag = None }) t)) [ true ↦ h | false ↦ h ]

-- a task that plays, by what it comes to
pub go_unblocked : (time : ℕ) (p : Pace) (t u : Task) → MayGo p t → MayGo p u → IsOn (unblocked time t).cursor.place (unblocked time t).cursor u.cursor → MayGo p (unblocked time t)
go_unblocked time Rests t u h after on = subst IsResting (sym (unblocked_alone time t h)) h
go_unblocked time (Plays r) t u h after on = λ some. rounds_before r (unblocked time t).cursor u.cursor on (after some)
go_unblocked time (Works w) t u h after on = subst (λ x. MayGo (Works w) x) (sym (unblocked_contending time t h.0)) h

pub go_homed : (o : Option ℕ) (p : Pace) (t : Task) → MayGo p t → MayGo p (with_cpu o t)
go_homed None p t h = h
go_homed (Some cpu) Rests t h = record { waits = h.waits; idle = h.idle }
go_homed (Some cpu) (Plays r) t h = h
go_homed (Some cpu) (Works w) t h = h

pub homed_on : (o : Option ℕ) (t : Task) → (with_cpu o t).cursor ≡ t.cursor
homed_on None t = refl
homed_on (Some cpu) t = refl

-- ---- each part, later

pub replenish_due_paced : (k time : ℕ) (p : Pace) (t : Task) → MayGo p t → replenish_due (time + k) (paced_task k p t) ≡ paced_task k p (replenish_due time t)
replenish_due_paced k time Rests t h = replenish_due_alone (time + k) t h ∙ sym (replenish_due_alone time t h)
replenish_due_paced k time (Plays r) t h = replenish_due_later k r 0 time t
replenish_due_paced k time (Works w) t h = replenish_due_later k 0 w time t

pub settled_paced : (k time : ℕ) (p : Pace) (t : Task) → MayGo p t → settled (time + k) (paced_task k p t) ≡ paced_task k p (settled time t)
settled_paced k time Rests t h = settled_alone (time + k) t h ∙ sym (settled_alone time t h)
settled_paced k time (Plays r) t h = settled_later k r 0 time t
settled_paced k time (Works w) t h = settled_later k 0 w time t

pub listed_paced : (k : ℕ) (p : Pace) (t : Task) → is_listed (paced_task k p t) ≡ is_listed t
listed_paced k p t = by_pace (λ u. is_listed u ≡ is_listed t) k p t refl (λ r w. listed_later k r w t)

-- what is left of the rounds where a script is asked
pub asked_left : (time r : ℕ) (t : Task) → (0 < r → HasRounds r (unblocked time t).cursor) → is_over time t.condition ≡ true → 0 < r → HasRounds r (next_segment t.cursor time).cursor
asked_left time r t after over some = subst (HasRounds r) (unblocked_cursor time t over) (after some)

pub ran_left : (time rate r : ℕ) (t : Task) → (0 < r → HasRounds r (ran time rate t).cursor) → eqb (t.work - 1) 0 ≡ true → 0 < r → HasRounds r (next_segment t.cursor (time + 1)).cursor
ran_left time rate r t after over some = subst (HasRounds r) (ran_cursor time rate t over) (after some)

pub unblocked_paced : (k time : ℕ) (p : Pace) (t : Task) → MayGo p t → MayGo p (unblocked time t) → unblocked (time + k) (paced_task k p t) ≡ paced_task k p (unblocked time t)
unblocked_paced k time Rests t h after = unblocked_alone (time + k) t h ∙ sym (unblocked_alone time t h)
unblocked_paced k time (Plays r) t h after = unblocked_plays k r time t (asked_left time r t after)
unblocked_paced k time (Works w) t h after = unblocked_works k w time t h.0

homed_paced : (k : ℕ) (p : Pace) (o : Option ℕ) (t : Task) → with_cpu o (paced_task k p t) ≡ paced_task k p (with_cpu o t)
homed_paced k p None t = refl
homed_paced k Rests (Some cpu) t = refl
homed_paced k (Plays r) (Some cpu) t = refl
homed_paced k (Works w) (Some cpu) t = refl

pub with_last_cpu_paced : (k : ℕ) (p : Pace) (places : Places) (t : Task) → with_last_cpu places (paced_task k p t) ≡ paced_task k p (with_last_cpu places t)
with_last_cpu_paced k p places t =
    let n = number_paced k p t in
    (λ i. with_cpu (position (is_task (n i)) places) (paced_task k p t)) ∙ homed_paced k p (position (is_task t.number) places) t

-- work that lasts through a tick of running
pub nothing_left : (r : ℕ) (c : CursorView) → 0 < 0 → HasRounds r c
nothing_left r c h = absurd (omega (arith, h))

pub works_on : (time rate w : ℕ) (t : Task) → suc w < t.work → suc w < (ran time rate t).work → suc w < t.work - 1
works_on time rate w t h after =
    let more : eqb (t.work - 1) 0 ≡ false = some_work (t.work - 1) 0 (omega (arith, h)) in
    subst (λ x. suc w < x) (ap (λ (u : Task). u.work) (ran_on_work time rate t more)) after

-- of a task that runs: it does not rest
pub ran_paced : (k time rate : ℕ) (p : Pace) (t : Task) → is_ready t.condition ≡ true → MayGo p t → MayGo p (ran time rate t) → ran (time + k) rate (paced_task k p t) ≡ paced_task k p (ran time rate t)
ran_paced k time rate Rests t ready h after = absurd (false≢true (never_ready t h ready))
ran_paced k time rate (Plays r) t ready h after = ran_plays k r time rate t (ran_left time rate r t after)
ran_paced k time rate (Works zero) t ready h after = ran_plays k 0 time rate t (λ over. nothing_left 0 (next_segment t.cursor (time + 1)).cursor)
ran_paced k time rate (Works (suc w)) t ready h after = ran_works k (suc w) time rate t (works_on time rate w t h.1 after.1)
