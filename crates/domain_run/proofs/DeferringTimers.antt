-- Zero-lag times that are deferred while no task reclaims: a domain with them goes the same way.
use Rattle.std.proofs.Common.{◌≡◌, ◌≢◌, ℕ, zero, suc, ◌+◌, ◌-◌, ◌*◌, ◌<◌, ◌≤◌, Bool, true, false, cond, eqb, ◌||◌, ◌&&◌, not, Option, Some, None, List, [], ◌∷◌, ◌++◌, length, map, get_or, refl, sym, ap, ◌∙◌, subst, arith}
use Rattle.std.specs.Prelude.{IfSome, pos, nat_le, ◌-ℤ◌, All, filter, find, position, is_none}
use Rattle.std.proofs.lemmas.Bool.{le-leb, leb-true}
use Rattle.std.proofs.lemmas.List.Elements.{All-cons, All-map}
use Rattle.cbs_rules.specs.declared.server.Server.{Server}
use Rattle.cbs_rules.specs.Serving.{is_spent, woken, replenished, charged}
use Rattle.edf_pick.specs.Places.{Places, is_task, is_on_cpu, placed}
use Rattle.domain_run.specs.declared.task.Task.{Task}
use Rattle.domain_run.specs.declared.task.Condition.{Condition}
use Rattle.domain_run.specs.declared.task.Condition.TheVariants.{Ready, Throttled, Blocked, Waiting, Leaving}
use Rattle.task_script.specs.declared.script.Segment.{Segment}
use Rattle.task_script.specs.declared.script.Segment.TheVariants.{Run as RunFor, Until, Wait as WaitFor, End}
use Rattle.task_script.specs.script.Segments.{next_segment}
use Rattle.domain_run.specs.Conditions.{is_throttled, is_contending, is_leaving, is_over, has_come}
use Rattle.domain_run.specs.Parts.{replenish_due, settled, is_listed, enqueued, started, unblocked, with_last_cpu, with_cpu, ran}
use Rattle.edf_pick.specs.Moves.{same_occupant}
use Rattle.domain_run.specs.Switches.{left_in, left_by, prev_state_of, switches_from}
use Rattle.domain_run.specs.Domain.{Domain}
use Rattle.domain_run.specs.Tick.{candidates, prepared, with_places, with_prepared, with_tick_begun, rate_of, ran_if, finished, ticked, ticks}
use Rattle.domain_run.specs.Jump.{ticks_to_due}
use Rattle.domain_run.specs.private.RunQueue.{ready_of}
use Rattle.domain_run.specs.private.DeferringTimers.{with_lag, with_lags, awake, IsBare, IsWithoutLag, MayDefer}
use Rattle.domain_run.proofs.Counting.{one, candidates_first}
use Rattle.domain_run.proofs.Keeping.{same_replenished, same_settled, same_unblocked}
use Rattle.domain_run.specs.private.Paying.{ran_until}
use Rattle.due_times.specs.OpenCharges.{OpenChargesView}
use Rattle.domain_run.specs.private.Owed.{owed, owed_all}
use Rattle.domain_run.proofs.Owed.{alike_owed}
use Rattle.std.proofs.lemmas.List.{get_or-map, get_or-set_same, get_or-set_other, length-map}
use Rattle.domain_run.specs.private.Timers.{IsTimerStep}
use Rattle.domain_run.specs.private.TaskTable.{without_zero_lag}
use Rattle.domain_run.proofs.Jumping.{Alike, map_alike, map_twice, filter_whole, still_before, rest_each, slid, slid_all, alike_slid, RunsIf, ran_slid, slid_more, finished_slid, slid_none, begun_still, jumped}

-- ---- a task with its zero-lag time, or without

pub either_lag : (P : Task → Type 0) (time : ℕ) (lag : Option ℕ) (t : Task) → P t → ((z : ℕ) → P (record t { zero_lag = Some z })) → P (with_lag time lag t)
either_lag P time None t p q = p
either_lag P time (Some z) t p q = elim (is_contending t.condition || nat_le z time) as (λ b. P (cond b t (record t { zero_lag = Some z }))) [ true ↦ p | false ↦ q z ]

pub lag_contending : (time : ℕ) (lag : Option ℕ) (t : Task) → is_contending t.condition ≡ true → with_lag time lag t ≡ t
lag_contending time None t h = refl
lag_contending time (Some z) t h = ap (λ b. cond (b || nat_le z time) t (record t { zero_lag = Some z })) h

-- parts 1 to 3 of a task that stays
abbrev pub woken_up : ℕ → Task → Task
woken_up time t = unblocked time (settled time (replenish_due time t))

or_true : (b : Bool) → (b || true) ≡ true
or_true true = refl
or_true false = refl

-- a time that has come is not looked at
lag_past : (time z : ℕ) (t : Task) → nat_le z time ≡ true → with_lag time (Some z) t ≡ t
lag_past time z t h = ap (λ b. cond (is_contending t.condition || b) t (record t { zero_lag = Some z })) h ∙ ap (λ b. cond b t (record t { zero_lag = Some z })) (or_true (is_contending t.condition))

lag_ahead : (time z : ℕ) (t : Task) → nat_le z time ≡ false → with_lag time (Some z) t ≡ cond (is_contending t.condition || false) t (record t { zero_lag = Some z })
lag_ahead time z t h = ap (λ b. cond (is_contending t.condition || b) t (record t { zero_lag = Some z })) h

come_later : (time later z : ℕ) → time ≤ later → nat_le z time ≡ true → nat_le z later ≡ true
come_later time later z h e = le-leb z later (omega (arith, h, leb-true z time e))

-- a task that asks its script, with a zero-lag time ahead
asks_lag : (time z : ℕ) (s : Segment) (u : Task) → u.zero_lag ≡ None → started time s (record u { zero_lag = Some z }) ≡ cond (is_contending (started time s u).condition || false) (started time s u) (record (started time s u) { zero_lag = Some z })
asks_lag time z (RunFor n) u none = enqueued_lag (woken u.params time u.server)
  where
    enqueued_lag : (v : Server) → enqueued time v (record u { zero_lag = None; work = n }) ≡ cond (is_contending (enqueued time v (record u { zero_lag = None; work = n })).condition || false) (enqueued time v (record u { zero_lag = None; work = n })) (record (enqueued time v (record u { zero_lag = None; work = n })) { zero_lag = Some z })
    enqueued_lag v =
        let x : Task = record u { zero_lag = None; work = n; server = replenished u.params v; condition = Ready } in
        let y : Task = record u { zero_lag = None; work = n; server = v; condition = Throttled } in
        let w : Task = record u { zero_lag = None; work = n; server = v; condition = Ready } in
        elim (is_spent v) as (λ b. cond b (cond (has_come time v.deadline) x y) w ≡ cond (is_contending (cond b (cond (has_come time v.deadline) x y) w).condition || false) (cond b (cond (has_come time v.deadline) x y) w) (record (cond b (cond (has_come time v.deadline) x y) w) { zero_lag = Some z })) [
          | true ↦ elim (has_come time v.deadline) as (λ b. cond b x y ≡ cond (is_contending (cond b x y).condition || false) (cond b x y) (record (cond b x y) { zero_lag = Some z })) [ true ↦ refl | false ↦ refl ]
          | false ↦ refl
        ]
asks_lag time z (Until w) u none = refl
asks_lag time z WaitFor u none = refl
asks_lag time z End u none = refl

-- parts 1 to 3 with a zero-lag time that is deferred, or without
module _ (time later : ℕ) (order : time ≤ later) where
  -- of a task that asks nothing
  at_rest : (z : ℕ) (k : Condition) (t : Task) → is_contending k ≡ false → is_throttled k ≡ false → is_over later k ≡ false → woken_up later (with_lag time (Some z) (record t { condition = k; zero_lag = None })) ≡ with_lag later (Some z) (woken_up later (record t { condition = k; zero_lag = None }))
  at_rest z k t resting spent still = by_times (nat_le z time) (nat_le z later) refl refl
    where
      u : Task
      u = record t { condition = k; zero_lag = None }

      v : Task
      v = record t { condition = k; zero_lag = Some z }

      idle : woken_up later u ≡ u
      idle = ap (λ b. unblocked later (settled later (cond (b && has_come later t.server.deadline) (record u { server = replenished u.params u.server; condition = Ready }) u))) spent ∙ ap (λ b. cond b (started later (next_segment u.cursor later).segment (record u { cursor = (next_segment u.cursor later).cursor })) u) still

      passed_by : woken_up later v ≡ unblocked later (settled later v)
      passed_by = ap (λ b. unblocked later (settled later (cond (b && has_come later t.server.deadline) (record v { server = replenished v.params v.server; condition = Ready }) v))) spent

      quiet : (w : Task) → w.condition ≡ k → unblocked later w ≡ w
      quiet w same = ap (λ b. cond b (started later (next_segment w.cursor later).segment (record w { cursor = (next_segment w.cursor later).cursor })) w) (ap (is_over later) same ∙ still)

      by_times : (a b : Bool) → nat_le z time ≡ a → nat_le z later ≡ b → woken_up later (with_lag time (Some z) u) ≡ with_lag later (Some z) (woken_up later u)
      by_times true b e f = ap (woken_up later) (lag_past time z u e) ∙ sym (lag_past later z (woken_up later u) (come_later time later z order e))
      by_times false true e f =
          ap (woken_up later) (lag_ahead time z u e ∙ ap (λ b. cond (b || false) u v) resting)
          ∙ passed_by
          ∙ ap (λ b. unblocked later (cond b u v)) f
          ∙ quiet u refl
          ∙ sym idle
          ∙ sym (lag_past later z (woken_up later u) f)
      by_times false false e f =
          ap (woken_up later) (lag_ahead time z u e ∙ ap (λ b. cond (b || false) u v) resting)
          ∙ passed_by
          ∙ ap (λ b. unblocked later (cond b u v)) f
          ∙ quiet v refl
          ∙ sym (ap (λ b. cond (b || false) u v) resting)
          ∙ sym (lag_ahead later z u f)
          ∙ ap (with_lag later (Some z)) (sym idle)

  by_condition : (z : ℕ) (k : Condition) (t : Task) → woken_up later (with_lag time (Some z) (record t { condition = k; zero_lag = None })) ≡ with_lag later (Some z) (woken_up later (record t { condition = k; zero_lag = None }))
  by_condition z Ready t = refl
  by_condition z Throttled t =
      let u : Task = record t { condition = Throttled; zero_lag = None } in
      let x : Task = record u { server = replenished u.params u.server; condition = Ready } in
      elim (has_come later t.server.deadline) as (λ b. unblocked later (settled later (cond b x u)) ≡ with_lag later (Some z) (unblocked later (settled later (cond b x u)))) [ true ↦ refl | false ↦ refl ]
  by_condition z (Blocked v) t = by_times (nat_le z time) (nat_le z later) refl refl
    where
      u : Task
      u = record t { condition = Blocked v; zero_lag = None }

      by_times : (a b : Bool) → nat_le z time ≡ a → nat_le z later ≡ b → woken_up later (with_lag time (Some z) u) ≡ with_lag later (Some z) (woken_up later u)
      by_times true b e f = ap (woken_up later) (lag_past time z u e) ∙ sym (lag_past later z (woken_up later u) (come_later time later z order e))
      by_times false true e f =
          ap (λ x. woken_up later (cond x u (record u { zero_lag = Some z }))) e
          ∙ ap (λ x. unblocked later (cond x u (record u { zero_lag = Some z }))) f
          ∙ sym (lag_past later z (woken_up later u) f)
      by_times false false e f =
          ap (λ x. woken_up later (cond x u (record u { zero_lag = Some z }))) e
          ∙ ap (λ x. unblocked later (cond x u (record u { zero_lag = Some z }))) f
          ∙ elim (nat_le v later) as (λ b. cond b (started later (next_segment u.cursor later).segment (record u { cursor = (next_segment u.cursor later).cursor; zero_lag = Some z })) (record u { zero_lag = Some z }) ≡ cond (is_contending (cond b (started later (next_segment u.cursor later).segment (record u { cursor = (next_segment u.cursor later).cursor })) u).condition || false) (cond b (started later (next_segment u.cursor later).segment (record u { cursor = (next_segment u.cursor later).cursor })) u) (record (cond b (started later (next_segment u.cursor later).segment (record u { cursor = (next_segment u.cursor later).cursor })) u) { zero_lag = Some z })) [
            | true ↦ asks_lag later z (next_segment u.cursor later).segment (record u { cursor = (next_segment u.cursor later).cursor }) refl
            | false ↦ refl
          ]
          ∙ sym (lag_ahead later z (woken_up later u) f)
  by_condition z Waiting t = at_rest z Waiting t refl refl refl
  by_condition z Leaving t = at_rest z Leaving t refl refl refl

  pub lag_woken : (lag : Option ℕ) (t : Task) → t.zero_lag ≡ None → woken_up later (with_lag time lag t) ≡ with_lag later lag (woken_up later t)
  lag_woken None t none = refl
  lag_woken (Some z) t none =
      let is : t ≡ record t { condition = t.condition; zero_lag = None } = λ i. record t { zero_lag = none i } in
      subst (λ u. woken_up later (with_lag time (Some z) u) ≡ with_lag later (Some z) (woken_up later u)) (sym is) (by_condition z t.condition t)

-- ---- ALL OF A LIST

pub lags_map : (f g : Task → Task) (time later : ℕ) (lags : List (Option ℕ)) (tasks : List Task) → All (λ t. (lag : Option ℕ) → f (with_lag time lag t) ≡ with_lag later lag (g t)) tasks → map f (with_lags time lags tasks) ≡ with_lags later lags (map g tasks)
lags_map f g time later [] tasks same = map_alike f g tasks (λ i d h. same i d h None)
lags_map f g time later (lag ∷ lags) [] same = refl
lags_map f g time later (lag ∷ lags) (t ∷ tasks) same =
    let first : f (with_lag time lag t) ≡ with_lag later lag (g t) = same zero t (omega arith) lag in
    let more = lags_map f g time later lags tasks (λ i d h. same (suc i) d (omega arith)) in
    λ i. first i ∷ more i

pub lags_all : (P : Task → Type 0) (time : ℕ) (lags : List (Option ℕ)) (tasks : List Task) → All (λ t. (lag : Option ℕ) → P (with_lag time lag t)) tasks → All P (with_lags time lags tasks)
lags_all P time [] tasks each = λ i d h. each i d h None
lags_all P time (lag ∷ lags) [] each = λ i d h. absurd (omega (arith, h))
lags_all P time (lag ∷ lags) (t ∷ tasks) each = All-cons P (with_lag time lag t) (with_lags time lags tasks) (each zero t (omega arith) lag) (lags_all P time lags tasks (λ i d h. each (suc i) d (omega arith)))

-- ---- PARTS 1 TO 3: no task goes off the list

pub leaves_not : (time : ℕ) (t : Task) → is_leaving t.condition ≡ false → is_listed (settled time (replenish_due time t)) ≡ true
leaves_not time t h = listed (replenish_due time t) replenished_stays
  where
    replenished_stays : is_leaving (replenish_due time t).condition ≡ false
    replenished_stays = elim (is_throttled t.condition && has_come time t.server.deadline) as (λ b. is_leaving (cond b (record t { server = replenished t.params t.server; condition = Ready }) t).condition ≡ false) [ true ↦ refl | false ↦ h ]

    listed : (u : Task) → is_leaving u.condition ≡ false → is_listed (settled time u) ≡ true
    listed u e = elim (has_come time u.zero_lag) as (λ b. is_listed (cond b (record u { zero_lag = None }) u) ≡ true) [
      | true ↦ ap (λ b. not (b && true)) e
      | false ↦ ap (λ b. not (b && is_none u.zero_lag)) e
    ]

pub prepared_whole : (time : ℕ) (tasks : List Task) → All (λ t. is_leaving t.condition ≡ false) tasks → prepared time tasks ≡ map (woken_up time) tasks
prepared_whole time tasks stay =
    let both = map_twice (settled time) (replenish_due time) (λ t. settled time (replenish_due time t)) tasks (λ i d h. refl) in
    let whole = filter_whole is_listed (map (λ t. settled time (replenish_due time t)) tasks) (All-map (λ x. is_listed x ≡ true) (λ t. settled time (replenish_due time t)) tasks (λ i d h. leaves_not time (get_or tasks i d) (stay i d h))) in
    ap (λ ts. map (unblocked time) (filter is_listed ts)) both
    ∙ ap (map (unblocked time)) whole
    ∙ map_twice (unblocked time) (λ t. settled time (replenish_due time t)) (woken_up time) tasks (λ i d h. refl)

-- a task that stays does so with a zero-lag time too
pub stays_with : (time : ℕ) (lag : Option ℕ) (t : Task) → is_leaving t.condition ≡ false → is_leaving (with_lag time lag t).condition ≡ false
stays_with time lag t h = either_lag (λ u. is_leaving u.condition ≡ false) time lag t h (λ z. h)

pub prepared_lags : (time later : ℕ) (lags : List (Option ℕ)) (tasks : List Task) → time ≤ later → All IsWithoutLag tasks → prepared later (with_lags time lags tasks) ≡ with_lags later lags (prepared later tasks)
prepared_lags time later lags tasks order plain =
    prepared_whole later (with_lags time lags tasks) (lags_all (λ t. is_leaving t.condition ≡ false) time lags tasks (λ i d h lag. stays_with time lag (get_or tasks i d) (plain i d h).stays))
    ∙ lags_map (woken_up later) (woken_up later) time later lags tasks (λ i d h lag. lag_woken time later order lag (get_or tasks i d) (plain i d h).lag)
    ∙ ap (with_lags later lags) (sym (prepared_whole later tasks (λ i d h. (plain i d h).stays)))

-- ---- PARTS 4 AND 5: the choice does not see them

ready_with : (time : ℕ) (lag : Option ℕ) (t : Task) → ready_of (with_lag time lag t) ≡ ready_of t
ready_with time lag t = either_lag (λ u. ready_of u ≡ ready_of t) time lag t refl (λ z. refl)

pub candidates_lags : (time : ℕ) (lags : List (Option ℕ)) (tasks : List Task) → candidates (with_lags time lags tasks) ≡ candidates tasks
candidates_lags time [] tasks = refl
candidates_lags time (lag ∷ lags) [] = refl
candidates_lags time (lag ∷ lags) (t ∷ tasks) =
    let first = ready_with time lag t in
    let more = candidates_lags time lags tasks in
    candidates_first (with_lag time lag t) (with_lags time lags tasks) ∙ (λ i. one (first i) ++ more i) ∙ sym (candidates_first t tasks)

left_with : (time : ℕ) (lags : List (Option ℕ)) (tasks : List Task) (n : ℕ) → left_by (find (λ t. eqb t.number n) (with_lags time lags tasks)) ≡ left_by (find (λ t. eqb t.number n) tasks)
left_with time [] tasks n = refl
left_with time (lag ∷ lags) [] n = refl
left_with time (lag ∷ lags) (t ∷ tasks) n =
    let more = left_with time lags tasks n in
    either_lag (λ u. left_by (cond (eqb u.number n) (Some u) (find (λ t. eqb t.number n) (with_lags time lags tasks))) ≡ left_by (cond (eqb t.number n) (Some t) (find (λ t. eqb t.number n) tasks))) time lag t
    (by_test more t refl refl) (λ z. by_test more (record t { zero_lag = Some z }) refl refl)
  where
    by_test : left_by (find (λ t. eqb t.number n) (with_lags time lags tasks)) ≡ left_by (find (λ t. eqb t.number n) tasks) → (u : Task) → u.number ≡ t.number → u.condition ≡ t.condition → left_by (cond (eqb u.number n) (Some u) (find (λ t. eqb t.number n) (with_lags time lags tasks))) ≡ left_by (cond (eqb t.number n) (Some t) (find (λ t. eqb t.number n) tasks))
    by_test more u number condition =
        ap (λ m. left_by (cond (eqb m n) (Some u) (find (λ t. eqb t.number n) (with_lags time lags tasks)))) number
        ∙ elim (eqb t.number n) as (λ b. left_by (cond b (Some u) (find (λ t. eqb t.number n) (with_lags time lags tasks))) ≡ left_by (cond b (Some t) (find (λ t. eqb t.number n) tasks))) [
          | true ↦ ap left_in condition
          | false ↦ more
        ]

state_with : (time : ℕ) (lags : List (Option ℕ)) (tasks : List Task) (o : Option ℕ) → prev_state_of (with_lags time lags tasks) o ≡ prev_state_of tasks o
state_with time lags tasks None = refl
state_with time lags tasks (Some n) = left_with time lags tasks n

switches_with : (at time : ℕ) (lags : List (Option ℕ)) (tasks : List Task) (cpu : ℕ) (before after : Places) → switches_from at (with_lags time lags tasks) cpu before after ≡ switches_from at tasks cpu before after
switches_with at time lags tasks cpu [] after = refl
switches_with at time lags tasks cpu (p ∷ before) [] = refl
switches_with at time lags tasks cpu (p ∷ before) (n ∷ after) =
    let more = switches_with at time lags tasks (cpu + 1) before after in
    let state = state_with time lags tasks p in
    λ i. cond (same_occupant p n) (more i) (record { time = at; prev = p; next = n; cpu = cpu; state = state i } ∷ more i)

pub home_with : (places : Places) (time : ℕ) (lag : Option ℕ) (t : Task) → with_last_cpu places (with_lag time lag t) ≡ with_lag time lag (with_last_cpu places t)
home_with places time None t = refl
home_with places time (Some z) t =
    elim (is_contending t.condition || nat_le z time) as (λ b. with_last_cpu places (cond b t (record t { zero_lag = Some z })) ≡ cond b (with_last_cpu places t) (record (with_last_cpu places t) { zero_lag = Some z })) [ true ↦ refl | false ↦ homed (position (is_task t.number) places) ]
    ∙ sym (ap (λ k. cond (is_contending k || nat_le z time) (with_last_cpu places t) (record (with_last_cpu places t) { zero_lag = Some z })) (homed_condition (position (is_task t.number) places)))
  where
    homed : (o : Option ℕ) → with_cpu o (record t { zero_lag = Some z }) ≡ record (with_cpu o t) { zero_lag = Some z }
    homed None = refl
    homed (Some cpu) = refl

    homed_condition : (o : Option ℕ) → (with_cpu o t).condition ≡ t.condition
    homed_condition None = refl
    homed_condition (Some cpu) = refl

-- a domain whose tasks have their zero-lag times at a time
abbrev pub woken_at : ℕ → List (Option ℕ) → Domain → Domain
woken_at time lags d = record d { tasks = with_lags time lags d.tasks }

pub begun_lags : (time : ℕ) (lags : List (Option ℕ)) (d : Domain) → time ≤ d.time → All IsWithoutLag d.tasks → with_tick_begun (woken_at time lags d) ≡ woken_at d.time lags (with_tick_begun d)
begun_lags time lags d order plain =
    let ts = prepared d.time d.tasks in
    let new = placed d.cpus (candidates ts) d.curr in
    let all = prepared_lags time d.time lags d.tasks order plain in
    let places : placed d.cpus (candidates (with_lags d.time lags ts)) d.curr ≡ new = ap (λ cs. placed d.cpus cs d.curr) (candidates_lags d.time lags ts) in
    let homes : map (with_last_cpu new) (with_lags d.time lags ts) ≡ with_lags d.time lags (map (with_last_cpu new) ts) = lags_map (with_last_cpu new) (with_last_cpu new) d.time d.time lags ts (λ i e h lag. home_with new d.time lag (get_or ts i e)) in
    let switches = switches_with d.time d.time lags ts 0 d.curr new in
    ap (λ us. with_prepared d us) all
    ∙ ap (λ ps. with_places d (with_lags d.time lags ts) ps) places
    ∙ (λ i. record d { tasks = homes i; curr = new; switches = d.switches ++ switches i })

-- ---- what they leave as it is

woken_none : (time : ℕ) (t : Task) → t.zero_lag ≡ None → (woken_up time t).zero_lag ≡ None
woken_none time t none = asks (settled time (replenish_due time t)) (settles (replenish_due time t) replenishes)
  where
    replenishes : (replenish_due time t).zero_lag ≡ None
    replenishes = elim (is_throttled t.condition && has_come time t.server.deadline) as (λ b. (cond b (record t { server = replenished t.params t.server; condition = Ready }) t).zero_lag ≡ None) [ true ↦ none | false ↦ none ]

    settles : (u : Task) → u.zero_lag ≡ None → (settled time u).zero_lag ≡ None
    settles u e = elim (has_come time u.zero_lag) as (λ b. (cond b (record u { zero_lag = None }) u).zero_lag ≡ None) [ true ↦ refl | false ↦ e ]

    enqueues : (v : Server) (u : Task) → u.zero_lag ≡ None → (enqueued time v u).zero_lag ≡ None
    enqueues v u e = elim (is_spent v) as (λ b. (cond b (cond (has_come time v.deadline) (record u { server = replenished u.params v; condition = Ready }) (record u { server = v; condition = Throttled })) (record u { server = v; condition = Ready })).zero_lag ≡ None) [
      | true ↦ elim (has_come time v.deadline) as (λ b. (cond b (record u { server = replenished u.params v; condition = Ready }) (record u { server = v; condition = Throttled })).zero_lag ≡ None) [ true ↦ e | false ↦ e ]
      | false ↦ e
    ]

    starts_none : (s : Segment) (u : Task) → u.zero_lag ≡ None → (started time s u).zero_lag ≡ None
    starts_none (RunFor n) u e = enqueues (woken u.params time u.server) (record u { zero_lag = None; work = n }) refl
    starts_none (Until w) u e = e
    starts_none WaitFor u e = e
    starts_none End u e = e

    asks : (u : Task) → u.zero_lag ≡ None → (unblocked time u).zero_lag ≡ None
    asks u e = elim (is_over time u.condition) as (λ b. (cond b (started time (next_segment u.cursor time).segment (record u { cursor = (next_segment u.cursor time).cursor })) u).zero_lag ≡ None) [
      | true ↦ starts_none (next_segment u.cursor time).segment (record u { cursor = (next_segment u.cursor time).cursor }) e
      | false ↦ e
    ]

woken_bare : (time : ℕ) (places : Places) (t : Task) → IsWithoutLag t → IsBare (with_last_cpu places (woken_up time t))
woken_bare time places t plain =
    let a = same_replenished time t in
    let b = same_settled time (replenish_due time t) in
    let c = same_unblocked time (settled time (replenish_due time t)) in
    homed (position (is_task (woken_up time t).number) places) (woken_up time t) (woken_none time t plain.lag) (ap (λ p. p.reclaim) (c.params ∙ b.params ∙ a.params) ∙ plain.fixed)
  where
    homed : (o : Option ℕ) (u : Task) → u.zero_lag ≡ None → u.params.reclaim ≡ false → IsBare (with_cpu o u)
    homed None u lag fixed = record { lag = lag; fixed = fixed }
    homed (Some cpu) u lag fixed = record { lag = lag; fixed = fixed }

pub begun_bare : (d : Domain) → All IsWithoutLag d.tasks → All IsBare (with_tick_begun d).tasks
begun_bare d plain =
    let new = placed d.cpus (candidates (prepared d.time d.tasks)) d.curr in
    let bare = All-map IsBare (λ t. with_last_cpu new (woken_up d.time t)) d.tasks (λ i e h. woken_bare d.time new (get_or d.tasks i e) (plain i e h)) in
    let both = map_twice (with_last_cpu new) (woken_up d.time) (λ t. with_last_cpu new (woken_up d.time t)) d.tasks (λ i e h. refl) in
    subst (λ ts. All IsBare ts) (sym (ap (map (with_last_cpu new)) (prepared_whole d.time d.tasks (λ i e h. (plain i e h).stays)) ∙ both)) bare

-- ---- A TICK OF RUNNING

pub rate_fixed : (b c : Domain) (t u : Task) → u.params ≡ t.params → t.params.reclaim ≡ false → rate_of b u ≡ rate_of c t
rate_fixed b c t u same fixed = unit_of u (ap (λ p. p.reclaim) same ∙ fixed) b ∙ sym (unit_of t fixed c)
  where
    unit_of : (x : Task) → x.params.reclaim ≡ false → (e : Domain) → rate_of e x ≡ 1048576
    unit_of x off e = rw off refl

module _ (b : Domain) (time : ℕ) (lags : List (Option ℕ)) where
  -- a task that runs runs as it does without them, and one that does not stays
  ran_with : (x : Domain) (t : Task) → IsBare t → x.curr ≡ b.curr → x.time ≡ b.time → (is_on_cpu t.number b.curr ≡ true → t.condition ≡ Ready) → (lag : Option ℕ) → ran_if x (with_lag time lag t) ≡ cond (is_on_cpu t.number b.curr) (ran_if b t) (with_lag time lag t)
  ran_with x t bare curr at ready lag = by_runs (is_on_cpu t.number b.curr) refl
    where
      number : (with_lag time lag t).number ≡ t.number
      number = either_lag (λ u. u.number ≡ t.number) time lag t refl (λ z. refl)

      by_runs : (s : Bool) → is_on_cpu t.number b.curr ≡ s → ran_if x (with_lag time lag t) ≡ cond s (ran_if b t) (with_lag time lag t)
      by_runs true e =
          let same = lag_contending time lag t (ap is_contending (ready e)) in
          let rate = rate_fixed x b t t refl bare.fixed in
          ap (ran_if x) same
          ∙ ap (λ s. cond s (ran x.time (rate_of x t) t) t) (ap (is_on_cpu t.number) curr ∙ e)
          ∙ (λ i. ran (at i) (rate i) t)
          ∙ sym (ap (λ s. cond s (ran b.time (rate_of b t) t) t) e)
      by_runs false e = ap (λ s. cond s (ran x.time (rate_of x (with_lag time lag t)) (with_lag time lag t)) (with_lag time lag t)) ((λ i. is_on_cpu (number i) (curr i)) ∙ e)

-- ---- MANY TICKS

-- what is made of each task of a list with them, and of each without
lags_both : (f g h : Task → Task) (time : ℕ) (lags : List (Option ℕ)) (tasks : List Task) → All (λ t. (lag : Option ℕ) → f (with_lag time lag (g t)) ≡ h (with_lag time lag t)) tasks → map f (with_lags time lags (map g tasks)) ≡ map h (with_lags time lags tasks)
lags_both f g h time [] tasks same = map_twice f g h tasks (λ i d w. same i d w None)
lags_both f g h time (lag ∷ lags) [] same = refl
lags_both f g h time (lag ∷ lags) (t ∷ tasks) same =
    let first : f (with_lag time lag (g t)) ≡ h (with_lag time lag t) = same zero t (omega arith) lag in
    let more = lags_both f g h time lags tasks (λ i d w. same (suc i) d (omega arith)) in
    λ i. first i ∷ more i

slid_bare : (b : Domain) (j : ℕ) (t : Task) → IsBare t → IsBare (slid b j t)
slid_bare b j t bare = let a = alike_slid b j t in record { lag = a.zero_lag ∙ bare.lag; fixed = ap (λ p. p.reclaim) a.params ∙ bare.fixed }

pub slid_ready : (b : Domain) (j k : ℕ) (t : Task) → RunsIf b k t → is_on_cpu (slid b j t).number b.curr ≡ true → (slid b j t).condition ≡ Ready
slid_ready b j k t runs e = let a = alike_slid b j t in a.condition ∙ (runs (ap (λ n. is_on_cpu n b.curr) (sym a.number) ∙ e)).ready

module _ (d : Domain) (lags : List (Option ℕ)) (k : ℕ) (plain : All IsWithoutLag d.tasks) (quiet : k - 1 ≤ ticks_to_due (d.time + 1) (with_tick_begun d).tasks) (runs : All (RunsIf (with_tick_begun d) k) (with_tick_begun d).tasks) where
  bare : All IsBare (with_tick_begun d).tasks
  bare = begun_bare d plain

  -- before a later tick each task stays
  pub still_plain : (j : ℕ) → suc j < k → All IsWithoutLag (slid_all (with_tick_begun d) (suc j)).tasks
  still_plain j less =
      All-map IsWithoutLag (slid (with_tick_begun d) (suc j)) (with_tick_begun d).tasks (λ i e h.
      let t = get_or (with_tick_begun d).tasks i e in
      let a = alike_slid (with_tick_begun d) (suc j) t in
      let still = still_before d.time (suc j) t (omega arith) (rest_each (d.time + 1) (suc j) (with_tick_begun d).tasks (omega (arith, quiet, less)) i e h) in
      let b = bare i e h in
      record {
        lag = a.zero_lag ∙ b.lag;
        stays = ap is_leaving a.condition ∙ listed_stays t b.lag still.listed;
        fixed = ap (λ p. p.reclaim) a.params ∙ b.fixed;
      })
    where
      listed_stays : (t : Task) → t.zero_lag ≡ None → is_listed t ≡ true → is_leaving t.condition ≡ false
      listed_stays t none listed = not_true (is_leaving t.condition) (ap (λ o. not (is_leaving t.condition && is_none o)) (sym none) ∙ listed)
        where
          not_true : (x : Bool) → not (x && true) ≡ true → x ≡ false
          not_true true e = absurd cc
          not_true false e = refl

  -- a tick in which nothing ends
  pub slid_lags : (j : ℕ) → suc j < k → finished (woken_at (d.time + j) lags (slid_all (with_tick_begun d) j)) ≡ woken_at (d.time + j) lags (slid_all (with_tick_begun d) (suc j))
  slid_lags j less =
      let b = with_tick_begun d in
      let x = slid_all b j in
      let time = d.time + j in
      let tasks = lags_map (ran_if (woken_at time lags x)) (ran_if x) time time lags x.tasks (All-map (λ u. (lag : Option ℕ) → ran_if (woken_at time lags x) (with_lag time lag u) ≡ with_lag time lag (ran_if x u)) (slid b j) b.tasks (λ i e h lag. one (get_or b.tasks i e) (bare i e h) (runs i e h) lag)) in
      (λ i. record x { time = x.time + 1; tasks = tasks i }) ∙ ap (woken_at time lags) (finished_slid b j k less runs)
    where
      one : (t : Task) → IsBare t → RunsIf (with_tick_begun d) k t → (lag : Option ℕ) → ran_if (woken_at (d.time + j) lags (slid_all (with_tick_begun d) j)) (with_lag (d.time + j) lag (slid (with_tick_begun d) j t)) ≡ with_lag (d.time + j) lag (ran_if (slid_all (with_tick_begun d) j) (slid (with_tick_begun d) j t))
      one t is runs lag =
          let b = with_tick_begun d in
          let x = slid_all b j in
          let time = d.time + j in
          let u = slid b j t in
          let ready = slid_ready b j k t runs in
          ran_with x time lags (woken_at time lags x) u (slid_bare b j t is) refl refl ready lag
          ∙ by_runs time lag x u ready (is_on_cpu u.number x.curr) refl (λ e. ap (λ (v : Task). v.condition) (slid_more b j k t less runs) ∙ slid_ready b (suc j) k t runs (ap (λ n. is_on_cpu n b.curr) ((alike_slid b (suc j) t).number ∙ sym (alike_slid b j t).number) ∙ e))
        where
          by_runs : (time : ℕ) (lag : Option ℕ) (x : Domain) (u : Task) → (is_on_cpu u.number x.curr ≡ true → u.condition ≡ Ready) → (s : Bool) → is_on_cpu u.number x.curr ≡ s → (is_on_cpu u.number x.curr ≡ true → (ran_if x u).condition ≡ Ready) → cond (is_on_cpu u.number x.curr) (ran_if x u) (with_lag time lag u) ≡ with_lag time lag (ran_if x u)
          by_runs time lag x u ready true e after = ap (λ s. cond s (ran_if x u) (with_lag time lag u)) e ∙ sym (lag_contending time lag (ran_if x u) (ap is_contending (after e)))
          by_runs time lag x u ready false e after = ap (λ s. cond s (ran_if x u) (with_lag time lag u)) e ∙ ap (with_lag time lag) (sym (ap (λ s. cond s (ran x.time (rate_of x u) u) u) e))

  pub ticks_lags : (j : ℕ) → j < k → ticks (suc j) (awake lags d) ≡ finished (woken_at (d.time + j) lags (slid_all (with_tick_begun d) j))
  ticks_lags zero h =
      let at : d.time ≡ d.time + 0 = omega arith in
      let none = sym (slid_none (with_tick_begun d)) in
      ap finished (begun_lags (d.time - 1) lags d (omega arith) plain ∙ (λ i. woken_at (at i) lags (none i)))
  ticks_lags (suc j) h =
      let b = with_tick_begun d in
      let x = slid_all b (suc j) in
      ap ticked (ticks_lags j (omega (arith, h)) ∙ slid_lags j h)
      ∙ ap finished (begun_lags (d.time + j) lags x (omega arith) (still_plain j h) ∙ ap (woken_at x.time lags) (begun_still d (suc j) (omega arith) (omega (arith, quiet, h))))

  last_lags : (j : ℕ) → k ≡ suc j → map (ran_if (woken_at (d.time + j) lags (slid_all (with_tick_begun d) j))) (with_lags (d.time + j) lags (map (slid (with_tick_begun d) j) (with_tick_begun d).tasks)) ≡ map (jumped (with_tick_begun d) (suc j)) (with_lags (d.time + j) lags (with_tick_begun d).tasks)
  last_lags j is =
      let b = with_tick_begun d in
      let x = slid_all b j in
      let time = d.time + j in
      lags_both (ran_if (woken_at time lags x)) (slid b j) (jumped b (suc j)) time lags b.tasks (λ i e h lag. one (get_or b.tasks i e) (bare i e h) (runs i e h) lag)
    where
      one : (t : Task) → IsBare t → RunsIf (with_tick_begun d) k t → (lag : Option ℕ) → ran_if (woken_at (d.time + j) lags (slid_all (with_tick_begun d) j)) (with_lag (d.time + j) lag (slid (with_tick_begun d) j t)) ≡ jumped (with_tick_begun d) (suc j) (with_lag (d.time + j) lag t)
      one t bare runs lag =
          let b = with_tick_begun d in
          let x = slid_all b j in
          let time = d.time + j in
          let u = slid b j t in
          ran_with x time lags (woken_at time lags x) u (slid_bare b j t bare) refl refl (slid_ready b j k t runs) lag
          ∙ by_runs (is_on_cpu t.number b.curr) refl
        where
          by_runs : (s : Bool) → is_on_cpu t.number (with_tick_begun d).curr ≡ s → cond (is_on_cpu (slid (with_tick_begun d) j t).number (with_tick_begun d).curr) (ran_if (slid_all (with_tick_begun d) j) (slid (with_tick_begun d) j t)) (with_lag (d.time + j) lag (slid (with_tick_begun d) j t)) ≡ jumped (with_tick_begun d) (suc j) (with_lag (d.time + j) lag t)
          by_runs true e =
              let b = with_tick_begun d in
              ap (λ n. cond (is_on_cpu n b.curr) (ran_if (slid_all b j) (slid b j t)) (with_lag (d.time + j) lag (slid b j t))) (alike_slid b j t).number
              ∙ ap (λ s. cond s (ran_if (slid_all b j) (slid b j t)) (with_lag (d.time + j) lag (slid b j t))) e
              ∙ ran_slid b j t
              ∙ ap (jumped b (suc j)) (sym (lag_contending (d.time + j) lag t (ap is_contending (runs e).ready)))
          by_runs false e =
              let b = with_tick_begun d in
              let number = either_lag (λ u. u.number ≡ t.number) (d.time + j) lag t refl (λ z. refl) in
              ap (λ n. cond (is_on_cpu n b.curr) (ran_if (slid_all b j) (slid b j t)) (with_lag (d.time + j) lag (slid b j t))) (alike_slid b j t).number
              ∙ ap (λ s. cond s (ran_if (slid_all b j) (slid b j t)) (with_lag (d.time + j) lag (slid b j t))) e
              ∙ ap (λ s. with_lag (d.time + j) lag (cond s (record t { server = charged (rate_of b t) j t.server; work = t.work - j }) t)) e
              ∙ sym (still (with_lag (d.time + j) lag t) (ap (λ n. is_on_cpu n b.curr) number ∙ e))
            where
              still : (v : Task) → is_on_cpu v.number (with_tick_begun d).curr ≡ false → jumped (with_tick_begun d) (suc j) v ≡ v
              still v e = ap (λ s. cond s (ran_until ((with_tick_begun d).time + suc j) (suc j) (v.server.left -ℤ pos (rate_of (with_tick_begun d) v * suc j)) v) v) e

-- THE JUMP past zero-lag times that are deferred
pub jump_lags : (d : Domain) (lags : List (Option ℕ)) (k : ℕ) → 0 < k → All IsWithoutLag d.tasks → k - 1 ≤ ticks_to_due (d.time + 1) (with_tick_begun d).tasks → All (RunsIf (with_tick_begun d) k) (with_tick_begun d).tasks → ticks k (awake lags d) ≡ record (with_tick_begun d) { time = d.time + k; tasks = map (jumped (with_tick_begun d) k) (with_lags (d.time + (k - 1)) lags (with_tick_begun d).tasks) }
jump_lags d lags zero some plain quiet runs = absurd (omega (arith, some))
jump_lags d lags (suc j) some plain quiet runs =
    let b = with_tick_begun d in
    let time : b.time + j + 1 ≡ b.time + suc j = omega arith in
    let at : d.time + j ≡ d.time + (suc j - 1) = omega arith in
    let tasks = last_lags d lags (suc j) plain quiet runs j refl ∙ ap (λ n. map (jumped b (suc j)) (with_lags n lags b.tasks)) at in
    ticks_lags d lags (suc j) plain quiet runs j (omega arith) ∙ (λ i. record b { time = time i; tasks = tasks i })

-- ---- THE LIST THAT IS KEPT

pub lag_gone : (past z : ℕ) (t : Task) → (is_contending t.condition || nat_le z past) ≡ true → with_lag past (Some z) t ≡ t
lag_gone past z t h = ap (λ b. cond b t (record t { zero_lag = Some z })) h

pub lag_kept : (past z : ℕ) (t : Task) → (is_contending t.condition || nat_le z past) ≡ false → with_lag past (Some z) t ≡ record t { zero_lag = Some z }
lag_kept past z t h = ap (λ b. cond b t (record t { zero_lag = Some z })) h

-- a task of the list is seen as it is stored, but for what it owes
pub seen_alike : (s : OpenChargesView) (items : List Task) (p : ℕ) (x d : Task) → p < length (owed_all s items) → x ≡ get_or items p x → Alike x (get_or (owed_all s items) p d)
seen_alike s items p x d there read =
    let many : length (map (owed s.upto s.charges) items) ≡ length items = simp length-map in
    let seen = get_or-map (owed s.upto s.charges) items p x d (omega (arith, there, many)) ∙ ap (owed s.upto s.charges) (sym read) in
    subst (λ u. Alike x u) (sym seen) (alike_owed s.upto s.charges x)

pub false_not : (b : Bool) → not b ≡ false → b ≡ true
false_not true e = refl
false_not false e = absurd cc

pub true_not : (b : Bool) → not b ≡ true → b ≡ false
true_not true e = absurd cc
true_not false e = refl

pub defer_alike : (time : ℕ) (t u : Task) → Alike t u → MayDefer time t → MayDefer time u
defer_alike time t u same may =
    let ahead = subst (λ o. IfSome o (λ z. (is_contending t.condition || nat_le z time) ≡ false)) (sym same.zero_lag) may.ahead in
    record {
      fixed = ap (λ p. p.reclaim) same.params ∙ may.fixed;
      stays = ap is_leaving same.condition ∙ may.stays;
      ahead = subst (λ k. IfSome u.zero_lag (λ z. (is_contending k || nat_le z time) ≡ false)) (sym same.condition) ahead;
    }

-- with the time that was deferred a task is as before
pub defer_back : (time : ℕ) (t : Task) → MayDefer time t → with_lag time t.zero_lag (without_zero_lag t) ≡ t
defer_back time t may = by_lag t.zero_lag refl may.ahead
  where
    by_lag : (o : Option ℕ) → t.zero_lag ≡ o → IfSome o (λ z. (is_contending t.condition || nat_le z time) ≡ false) → with_lag time o (without_zero_lag t) ≡ t
    by_lag None e ahead = λ i. record t { zero_lag = (sym e) i }
    by_lag (Some z) e ahead = ap (λ b. cond b (without_zero_lag t) (record t { zero_lag = Some z })) ahead ∙ (λ i. record t { zero_lag = (sym e) i })

pub defer_plain : (time : ℕ) (t : Task) → MayDefer time t → IsWithoutLag (without_zero_lag t)
defer_plain time t may = record { lag = refl; stays = may.stays; fixed = may.fixed }

-- ---- PLACE BY PLACE

pub length_lags : (time : ℕ) (lags : List (Option ℕ)) (tasks : List Task) → length (with_lags time lags tasks) ≡ length tasks
length_lags time [] tasks = refl
length_lags time (lag ∷ lags) [] = refl
length_lags time (lag ∷ lags) (t ∷ tasks) = ap suc (length_lags time lags tasks)

pub read_lags : (time : ℕ) (lags : List (Option ℕ)) (tasks : List Task) (i : ℕ) (d : Task) → i < length tasks → get_or (with_lags time lags tasks) i d ≡ with_lag time (get_or lags i None) (get_or tasks i d)
read_lags time [] tasks i d h = refl
read_lags time (lag ∷ lags) [] i d h = absurd (omega (arith, h))
read_lags time (lag ∷ lags) (t ∷ tasks) zero d h = refl
read_lags time (lag ∷ lags) (t ∷ tasks) (suc i) d h = read_lags time lags tasks i d (omega (arith, h))

-- what is said place by place is said of the whole list
pub lists_same : (xs ys : List Task) → length xs ≡ length ys → ((i : ℕ) (d : Task) → i < length ys → get_or xs i d ≡ get_or ys i d) → xs ≡ ys
lists_same [] [] many each = refl
lists_same [] (y ∷ ys) many each = absurd (omega (arith, many))
lists_same (x ∷ xs) [] many each = absurd (omega (arith, many))
lists_same (x ∷ xs) (y ∷ ys) many each =
    let first : x ≡ y = each zero x (omega arith) in
    let more = lists_same xs ys (omega (arith, many)) (λ i d h. each (suc i) d (omega (arith, h))) in
    λ i. first i ∷ more i

module _ (f : Task → Task) (old new : List Task) (p : ℕ) (step : IsTimerStep f p old new) where
  pub step_here : (d : Task) → p < length old → get_or new p d ≡ f (get_or old p d)
  step_here d h = ap (λ (ts : List Task). get_or ts p d) (step.is d) ∙ get_or-set_same old p (f (get_or old p d)) d h

  pub step_other : (i : ℕ) (d : Task) → i ≢ p → get_or new i d ≡ get_or old i d
  step_other i d apart = ap (λ (ts : List Task). get_or ts i d) (step.is d) ∙ get_or-set_other old p i (f (get_or old p d)) d apart
