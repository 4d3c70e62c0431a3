-- What happens in a tick of a shifted domain.
use Rattle.std.proofs.Common.{◌≡◌, ℕ, zero, suc, ◌+◌, ◌-◌, ◌<◌, Bool, true, false, cond, ◌||◌, ◌&&◌, eqb, ltb, List, [], ◌∷◌, ◌++◌, map, get_or, refl, ap, sym, ◌∙◌, arith}
use Rattle.std.specs.Prelude.{IsTrue, IsSome}
use Rattle.std.specs.List.{flat_map}
use Rattle.std.proofs.lemmas.Bool.{false≢true}
use Rattle.std.proofs.lemmas.List.{map-append}
use Rattle.cbs_rules.specs.Serving.{replenished}
use Rattle.edf_pick.specs.Places.{Places, is_on_cpu}
use Rattle.task_script.specs.declared.script.Segment.{Segment}
use Rattle.task_script.specs.declared.script.Segment.TheVariants.{Run as RunFor, Until, Wait as WaitFor, End}
use Rattle.task_script.specs.script.Segments.{passes_late_timer, next_segment}
use Rattle.domain_run.specs.declared.task.Task.{Task}
use Rattle.domain_run.specs.declared.task.Condition.{Condition}
use Rattle.domain_run.specs.declared.task.Condition.TheVariants.{Ready, Throttled, Blocked, Waiting, Leaving}
use Rattle.domain_run.specs.declared.happened.What.{What}
use Rattle.domain_run.specs.declared.happened.What.TheVariants.{JobEnds, NextReleased, Spent, Cut, Replenished, Released, WokenSpent}
use Rattle.domain_run.specs.declared.happened.Happened.{Happened}
use Rattle.domain_run.specs.Conditions.{is_throttled, is_contending, is_over, is_ready, has_come}
use Rattle.domain_run.specs.Parts.{replenish_due, unblocked, ran}
use Rattle.domain_run.specs.Domain.{Domain}
use Rattle.domain_run.specs.Tick.{with_tick_begun, rate_of, ticked, ticks}
use Rattle.domain_run.specs.Happened.{happened_to, due, logged_by_segment, logged_by_work, logged_by_budget, logged_by_run, logged_if_ran, logged_by_replenishment, logged_by_wake, logged_by_unblocking, kind_rank, is_first, with_happened, in_order, with_its_cpu, logged_to_begin, logged_by_beginning, logged_by_end, logged_by_tick, logged_by_ticks}
use Rattle.task_script.specs.script.Later.{later_cursor, HasRounds}
use Rattle.domain_run.specs.Later.{later_task, later_what, later_happened}
use Rattle.domain_run.specs.declared.pace.Pace.{Pace}
use Rattle.domain_run.specs.declared.pace.Pace.TheVariants.{Rests, Plays, Works}
use Rattle.domain_run.specs.Shift.{Shift, paced_task, shifted_task, shifted, IsResting, MayGo, MayShift}
use Rattle.repeat_law.specs.Shift.{MayShiftFor}
use Rattle.repeat_law.proofs.Lists.{choice_over, map_over, flat_over}
use Rattle.repeat_law.proofs.Serving.{swap_add}
use Rattle.repeat_law.proofs.Asking.{later_segment, next_later, late_later}
use Rattle.repeat_law.proofs.Parts.{throttled_later, over_later, come_later, contending_later, contending_not_over, replenish_due_later, charged_later, same_work, more_work, some_work, unblocked_plays, ran_plays, ran_works}
use Rattle.repeat_law.proofs.Paces.{charged_task, number_paced, never_ready, asked_left, ran_left, nothing_left, works_on}
use Rattle.repeat_law.proofs.Dating.{IsDated, AreDated, IsShiftable, replenish_due_dated, unblocked_dated, ran_dated, left_dated, running_dated, running_all, ticks_shiftable}
use Rattle.repeat_law.proofs.Ticking.{deadline_later, left, left_go, left_over, left_after, rate_over, begun_go, begun_after, begun_over, ticks_over}

-- ---- lists

-- if a test decides whether one is logged
logged_if : {X Y : Type 0} (m : X → Y) (a b : Bool) (x : X) (y : Y) → a ≡ b → (b ≡ true → y ≡ m x) → cond a (y ∷ []) [] ≡ map m (cond b (x ∷ []) [])
logged_if m a true x y e h = let one = h refl in (λ i. cond (e i) (y ∷ []) []) ∙ (λ i. one i ∷ [])
logged_if m a false x y e h = λ i. cond (e i) (y ∷ []) []

rank_later : (k : ℕ) (w : What) → kind_rank (later_what k w) ≡ kind_rank w
rank_later k JobEnds = refl
rank_later k (NextReleased deadline) = refl
rank_later k (Spent deadline) = refl
rank_later k Cut = refl
rank_later k (Replenished deadline) = refl
rank_later k (Released deadline) = refl
rank_later k (WokenSpent deadline) = refl

first_later : (k : ℕ) (a b : Happened) → is_first (later_happened k a) (later_happened k b) ≡ is_first a b
first_later k a b =
    let x = rank_later k a.what in
    let y = rank_later k b.what in
    λ i. ltb (x i) (y i) || (eqb (x i) (y i) && (ltb a.cpu b.cpu || (eqb a.cpu b.cpu && ltb a.number b.number)))

put_later : (k : ℕ) (h : Happened) (hs : List Happened) → with_happened (later_happened k h) (map (later_happened k) hs) ≡ map (later_happened k) (with_happened h hs)
put_later k h [] = refl
put_later k h (o ∷ os) =
    let first = first_later k h o in
    let more = put_later k h os in
    let s = later_happened k in
    (λ i. cond (first i) (s h ∷ s o ∷ map s os) (s o ∷ more i))
    ∙ choice_over (map s) (is_first h o) (h ∷ o ∷ os) (o ∷ with_happened h os)

order_later : (k : ℕ) (hs : List Happened) → in_order (map (later_happened k) hs) ≡ map (later_happened k) (in_order hs)
order_later k [] = refl
order_later k (h ∷ hs) = ap (with_happened (later_happened k h)) (order_later k hs) ∙ put_later k h (in_order hs)

placed_logged : (k : ℕ) (places : Places) (hs : List Happened) → map (with_its_cpu places) (map (later_happened k) hs) ≡ map (later_happened k) (map (with_its_cpu places) hs)
placed_logged k places hs = map_over (later_happened k) (with_its_cpu places) (with_its_cpu places) hs (λ i x w. refl)

throttled_contends : (c : Condition) → is_throttled c ≡ true → is_contending c ≡ true
throttled_contends Ready e = refl
throttled_contends Throttled e = refl
throttled_contends (Blocked u) e = e
throttled_contends Waiting e = e
throttled_contends Leaving e = e

-- ---- one task, some rounds further on and with some work done

module _ (k r w : ℕ) where
  segment_logged : (time : ℕ) (t : Task) (late : Bool) (a : Segment) → logged_by_segment (time + k) (later_task k r w t) late (later_segment k a) ≡ map (later_happened k) (logged_by_segment time t late a)
  segment_logged time t true (RunFor n) =
      let e = swap_add time t.params.deadline k in
      λ i. happened_to (time + k) (later_task k r w t) JobEnds ∷ happened_to (time + k) (later_task k r w t) (NextReleased (e i)) ∷ []
  segment_logged time t false (RunFor n) = refl
  segment_logged time t late (Until u) = refl
  segment_logged time t late WaitFor = refl
  segment_logged time t late End = refl

  budget_logged : (time : ℕ) (t : Task) → IsDated t → logged_by_budget (time + k) (later_task k r w t) ≡ map (later_happened k) (logged_by_budget time t)
  budget_logged time t dated =
      let u = later_task k r w t in
      logged_if (later_happened k) (is_throttled u.condition) (is_throttled t.condition) (happened_to time t (Spent (due t))) (happened_to (time + k) u (Spent (due u))) (throttled_later k t.condition)
      (λ is. let d = deadline_later k t.server.deadline (dated (throttled_contends t.condition is)) in λ i. happened_to (time + k) u (Spent (d i)))

  replenishment_logged : (time : ℕ) (t : Task) → IsDated t → logged_by_replenishment (time + k) (later_task k r w t) ≡ map (later_happened k) (logged_by_replenishment time t)
  replenishment_logged time t dated =
      let u = later_task k r w t in
      let a = throttled_later k t.condition in
      let b = come_later k time t.server.deadline in
      let v = replenish_due time t in
      let x = replenish_due_later k r w time t in
      let ready : (is_throttled t.condition && has_come time t.server.deadline) ≡ true → is_contending v.condition ≡ true = λ e. ap (λ b. is_contending (cond b (record t { server = replenished t.params t.server; condition = Ready }) t).condition) e in
      logged_if (later_happened k) (is_throttled u.condition && has_come (time + k) u.server.deadline) (is_throttled t.condition && has_come time t.server.deadline)
      (happened_to time t (Replenished (due v))) (happened_to (time + k) u (Replenished (due (replenish_due (time + k) u)))) (λ i. a i && b i)
      (λ is.
      let d = deadline_later k v.server.deadline (replenish_due_dated time t dated (ready is)) in
      (λ i. happened_to (time + k) u (Replenished (due (x i)))) ∙ (λ i. happened_to (time + k) u (Replenished (d i))))

  wake_logged : (time : ℕ) (t woken : Task) (a : Segment) → IsDated woken → logged_by_wake (time + k) (later_task k r w t) (later_task k r w woken) (later_segment k a) ≡ map (later_happened k) (logged_by_wake time t woken a)
  wake_logged time t woken (RunFor n) dated =
      let u = later_task k r w t in
      let v = later_task k r w woken in
      let e = swap_add time t.params.deadline k in
      let spent = logged_if (later_happened k) (is_throttled v.condition) (is_throttled woken.condition) (happened_to time t (WokenSpent (due woken))) (happened_to (time + k) u (WokenSpent (due v))) (throttled_later k woken.condition)
      (λ is. let d = deadline_later k woken.server.deadline (dated (throttled_contends woken.condition is)) in λ i. happened_to (time + k) u (WokenSpent (d i))) in
      λ i. happened_to (time + k) u (Released (e i)) ∷ spent i
  wake_logged time t woken (Until u) dated = refl
  wake_logged time t woken WaitFor dated = refl
  wake_logged time t woken End dated = refl

-- ---- a task that plays its script

module _ (k r : ℕ) where
  work_plays : (time : ℕ) (t : Task) → (eqb t.work 0 ≡ true → 0 < r → HasRounds r (next_segment t.cursor time).cursor) → logged_by_work (time + k) (later_task k r 0 t) ≡ map (later_happened k) (logged_by_work time t)
  work_plays time t rounds =
      let u = later_task k r 0 t in
      let c = later_cursor k r t.cursor in
      let z = same_work t.work in
      let all = logged_by_segment (time + k) u (passes_late_timer c (time + k)) (next_segment c (time + k)).segment in
      let logged = logged_by_segment time t (passes_late_timer t.cursor time) (next_segment t.cursor time).segment in
      sym (λ i. cond (eqb (z i) 0) all [])
      ∙ (elim (eqb t.work 0) as (λ b. eqb t.work 0 ≡ b → cond b all [] ≡ map (later_happened k) (cond b logged [])) [
        | true ↦ λ e.
            let late = late_later k r t.cursor time (rounds e) in
            let gives = next_later k r t.cursor time (rounds e) in
            (λ i. logged_by_segment (time + k) u (late i) (gives i).segment)
            ∙ segment_logged k r 0 time t (passes_late_timer t.cursor time) (next_segment t.cursor time).segment
        | false ↦ λ e. refl
      ] refl)

  run_plays : (time rate : ℕ) (t : Task) → IsSome t.server.deadline → (eqb (t.work - 1) 0 ≡ true → 0 < r → HasRounds r (next_segment t.cursor (time + 1)).cursor) → logged_by_run (time + k) rate (later_task k r 0 t) ≡ map (later_happened k) (logged_by_run time rate t)
  run_plays time rate t dated rounds =
      let u = charged_task rate t in
      let v = ran time rate t in
      let e = swap_add time 1 k in
      let x = charged_later k r 0 rate t in
      let after = ran_plays k r time rate t rounds in
      let work = work_plays (time + 1) u rounds in
      let budget = budget_logged k r 0 (time + 1) v (ran_dated time rate t dated) in
      (λ i. logged_by_work (e i) (x i) ++ logged_by_budget (e i) (after i))
      ∙ (λ i. work i ++ budget i)
      ∙ sym (map-append (later_happened k) (logged_by_work (time + 1) u) (logged_by_budget (time + 1) v))

  unblocking_plays : (time : ℕ) (t : Task) → IsDated t → (is_over time t.condition ≡ true → 0 < r → HasRounds r (next_segment t.cursor time).cursor) → logged_by_unblocking (time + k) (later_task k r 0 t) ≡ map (later_happened k) (logged_by_unblocking time t)
  unblocking_plays time t dated rounds =
      let u = later_task k r 0 t in
      let a = next_segment t.cursor time in
      let over = over_later k time t.condition in
      let x = unblocked_plays k r time t rounds in
      let all = logged_by_wake (time + k) u (unblocked (time + k) u) (next_segment u.cursor (time + k)).segment in
      let logged = logged_by_wake time t (unblocked time t) a.segment in
      (λ i. cond (over i) all [])
      ∙ (elim (is_over time t.condition) as (λ b. is_over time t.condition ≡ b → cond b all [] ≡ map (later_happened k) (cond b logged [])) [
        | true ↦ λ e.
            let gives = next_later k r t.cursor time (rounds e) in
            (λ i. logged_by_wake (time + k) u (x i) (gives i).segment)
            ∙ wake_logged k r 0 time t (unblocked time t) a.segment (unblocked_dated time t dated)
        | false ↦ λ e. refl
      ] refl)

-- ---- a task whose work lasts

module _ (k w : ℕ) where
  run_works : (time rate : ℕ) (t : Task) → IsSome t.server.deadline → w < t.work - 1 → logged_by_run (time + k) rate (later_task k 0 w t) ≡ map (later_happened k) (logged_by_run time rate t)
  run_works time rate t dated h =
      let u = charged_task rate t in
      let v = ran time rate t in
      let e = swap_add time 1 k in
      let x = charged_later k 0 w rate t in
      let y = later_task k 0 w u in
      let after = ran_works k w time rate t h in
      let a = more_work (t.work - 1) w h in
      let b = some_work (t.work - 1) w h in
      let budget = budget_logged k 0 w (time + 1) v (ran_dated time rate t dated) in
      let logged = logged_by_segment (time + 1) u (passes_late_timer u.cursor (time + 1)) (next_segment u.cursor (time + 1)).segment in
      (λ i. logged_by_work (e i) (x i) ++ logged_by_budget (e i) (after i))
      ∙ (λ i. cond (a i) (logged_by_segment (time + 1 + k) y (passes_late_timer y.cursor (time + 1 + k)) (next_segment y.cursor (time + 1 + k)).segment) [] ++ budget i)
      ∙ sym (λ i. map (later_happened k) (cond (b i) logged []) ++ map (later_happened k) (logged_by_budget (time + 1) v))
      ∙ sym (map-append (later_happened k) (logged_by_work (time + 1) u) (logged_by_budget (time + 1) v))

  unblocking_works : (time : ℕ) (t : Task) → is_contending t.condition ≡ true → logged_by_unblocking (time + k) (later_task k 0 w t) ≡ map (later_happened k) (logged_by_unblocking time t)
  unblocking_works time t is =
      let u = later_task k 0 w t in
      let later_over = contending_not_over (time + k) u.condition (contending_later k t.condition ∙ is) in
      let over = contending_not_over time t.condition is in
      (λ i. cond (later_over i) (logged_by_wake (time + k) u (unblocked (time + k) u) (next_segment u.cursor (time + k)).segment) [])
      ∙ sym (λ i. map (later_happened k) (cond (over i) (logged_by_wake time t (unblocked time t) (next_segment t.cursor time).segment) []))

-- ---- a task that rests

replenishment_unlogged : (time : ℕ) (t : Task) → IsResting t → logged_by_replenishment time t ≡ []
replenishment_unlogged time t is = let c = is.waits in λ i. cond (is_throttled (c i) && has_come time t.server.deadline) (happened_to time t (Replenished (due (replenish_due time t))) ∷ []) []

unblocking_unlogged : (time : ℕ) (t : Task) → IsResting t → logged_by_unblocking time t ≡ []
unblocking_unlogged time t is = let c = is.waits in λ i. cond (is_over time (c i)) (logged_by_wake time t (unblocked time t) (next_segment t.cursor time).segment) []

-- ---- a task at each pace

replenishment_paced : (k time : ℕ) (p : Pace) (t : Task) → IsDated t → MayGo p t → logged_by_replenishment (time + k) (paced_task k p t) ≡ map (later_happened k) (logged_by_replenishment time t)
replenishment_paced k time Rests t dated h = replenishment_unlogged (time + k) t h ∙ sym (ap (map (later_happened k)) (replenishment_unlogged time t h))
replenishment_paced k time (Plays r) t dated h = replenishment_logged k r 0 time t dated
replenishment_paced k time (Works w) t dated h = replenishment_logged k 0 w time t dated

unblocking_paced : (k time : ℕ) (p : Pace) (t : Task) → IsDated t → MayGo p t → MayGo p (unblocked time t) → logged_by_unblocking (time + k) (paced_task k p t) ≡ map (later_happened k) (logged_by_unblocking time t)
unblocking_paced k time Rests t dated h after = unblocking_unlogged (time + k) t h ∙ sym (ap (map (later_happened k)) (unblocking_unlogged time t h))
unblocking_paced k time (Plays r) t dated h after = unblocking_plays k r time t dated (asked_left time r t after)
unblocking_paced k time (Works w) t dated h after = unblocking_works k w time t h.0

run_paced : (k time rate : ℕ) (p : Pace) (t : Task) → IsSome t.server.deadline → is_ready t.condition ≡ true → MayGo p t → MayGo p (ran time rate t) → logged_by_run (time + k) rate (paced_task k p t) ≡ map (later_happened k) (logged_by_run time rate t)
run_paced k time rate Rests t dated ready h after = absurd (false≢true (never_ready t h ready))
run_paced k time rate (Plays r) t dated ready h after = run_plays k r time rate t dated (ran_left time rate r t after)
run_paced k time rate (Works zero) t dated ready h after = run_plays k 0 time rate t dated (λ over. nothing_left 0 (next_segment t.cursor (time + 1)).cursor)
run_paced k time rate (Works (suc w)) t dated ready h after = run_works k (suc w) time rate t dated (works_on time rate w t h.1 after.1)

-- ---- a tick, and ticks

module _ (s : Shift) where
  ran_over : (d : Domain) (t : Task) → (IsTrue (is_on_cpu t.number d.curr) → IsSome t.server.deadline) → (IsTrue (is_on_cpu t.number d.curr) → IsTrue (is_ready t.condition)) → MayGo (s.pace t.number) t → MayGo (s.pace t.number) (cond (is_on_cpu t.number d.curr) (ran d.time (rate_of d t) t) t) → logged_if_ran (shifted s d) (shifted_task s t) ≡ map (later_happened s.micros) (logged_if_ran d t)
  ran_over d t dated ready h after =
      let k = s.micros in
      let p = s.pace t.number in
      let u = shifted_task s t in
      let n = number_paced k p t in
      let rate = rate_over s d t in
      let r = rate_of d t in
      (λ i. cond (is_on_cpu (n i) d.curr) (logged_by_run (d.time + k) (rate i) u) [])
      ∙ (elim (is_on_cpu t.number d.curr) as (λ b. is_on_cpu t.number d.curr ≡ b → MayGo p (cond b (ran d.time r t) t) → cond b (logged_by_run (d.time + k) r u) [] ≡ map (later_happened k) (cond b (logged_by_run d.time r t) [])) [
        | true ↦ λ there a. run_paced k d.time r p t (dated there) (ready there) h a
        | false ↦ λ there a. refl
      ] refl after)

  end_over : (d : Domain) → IsShiftable d → MayShift s d.tasks → MayShift s (ticked d).tasks → logged_by_end (shifted s (with_tick_begun d)) ≡ map (later_happened s.micros) (logged_by_end (with_tick_begun d))
  end_over d is h after =
      let e = with_tick_begun d in
      let dated = running_dated d is in
      let ready = running_all d is in
      let may = begun_go s d h after in
      let ends = begun_after s d after in
      ap in_order (flat_over (shifted_task s) (later_happened s.micros) (logged_if_ran e) (logged_if_ran (shifted s e)) e.tasks (λ i x w. ran_over e (get_or e.tasks i x) (dated i x w) (ready i x w) (may i x w) (ends i x w)))
      ∙ order_later s.micros (flat_map (logged_if_ran e) e.tasks)

  begin_over : (d : Domain) → AreDated d.tasks → MayShift s d.tasks → MayShift s (ticked d).tasks → logged_to_begin (shifted s d) ≡ map (later_happened s.micros) (logged_to_begin d)
  begin_over d dated h after =
      let k = s.micros in
      let time = d.time in
      let ts = d.tasks in
      let m = later_happened k in
      let ls = left time ts in
      let may = left_go s time ts h in
      let ends = left_after s d h after in
      let off = left_over s time ts h in
      let first = flat_over (shifted_task s) m (logged_by_replenishment time) (logged_by_replenishment (time + k)) ts (λ i x w. let t = get_or ts i x in replenishment_paced k time (s.pace t.number) t (dated i x w) (h i x w)) in
      let second = flat_over (shifted_task s) m (logged_by_unblocking time) (logged_by_unblocking (time + k)) ls (λ i x w. let t = get_or ls i x in unblocking_paced k time (s.pace t.number) t (left_dated time ts dated i x w) (may i x w) (ends i x w)) in
      (λ i. first i ++ flat_map (logged_by_unblocking (time + k)) (off i))
      ∙ (λ i. map m (flat_map (logged_by_replenishment time) ts) ++ second i)
      ∙ sym (map-append m (flat_map (logged_by_replenishment time) ts) (flat_map (logged_by_unblocking time) ls))

  tick_logs : (d : Domain) → IsShiftable d → MayShift s d.tasks → MayShift s (ticked d).tasks → logged_by_tick (shifted s d) ≡ map (later_happened s.micros) (logged_by_tick d)
  tick_logs d is h after =
      let m = later_happened s.micros in
      let e = with_tick_begun d in
      let begun = begun_over s d is.dated h after in
      let first = begin_over d is.dated h after in
      let placed = placed_logged s.micros e.curr (logged_to_begin d) in
      let end = end_over d is h after in
      (λ i. in_order (map (with_its_cpu (begun i).curr) (first i)) ++ logged_by_end (begun i))
      ∙ (λ i. in_order (placed i) ++ end i)
      ∙ (λ i. order_later s.micros (map (with_its_cpu e.curr) (logged_to_begin d)) i ++ map m (logged_by_end e))
      ∙ sym (map-append m (logged_by_beginning d) (logged_by_end e))

  pub ticks_log : (n : ℕ) (d : Domain) → IsShiftable d → MayShiftFor s n d → logged_by_ticks n (shifted s d) ≡ map (later_happened s.micros) (logged_by_ticks n d)
  ticks_log zero d is h = refl
  ticks_log (suc n) d is h =
      let so_far : MayShiftFor s n d = λ i within. h i (omega (arith, within)) in
      let before = ticks_log n d is so_far in
      let there = ticks_over s n d is so_far in
      let one = tick_logs (ticks n d) (ticks_shiftable n d is) (h n (omega arith)) (h (suc n) (omega arith)) in
      (λ i. before i ++ logged_by_tick (there i))
      ∙ (λ i. map (later_happened s.micros) (logged_by_ticks n d) ++ one i)
      ∙ sym (map-append (later_happened s.micros) (logged_by_ticks n d) (logged_by_tick (ticks n d)))
