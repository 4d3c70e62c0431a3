-- What is logged does not depend on zero-lag times that are deferred.
use Rattle.std.proofs.Common.{◌≡◌, ℕ, zero, suc, ◌+◌, ◌-◌, ◌<◌, ◌≤◌, Bool, true, false, cond, ◌&&◌, Option, Some, None, List, [], ◌∷◌, ◌++◌, map, get_or, refl, sym, ap, ◌∙◌, subst, arith}
use Rattle.std.specs.Prelude.{All, filter}
use Rattle.std.specs.List.{flat_map}
use Rattle.std.proofs.lemmas.List.Folds.{flat_map-map}
use Rattle.std.proofs.lemmas.List.Elements.{All-map}
use Rattle.cbs_rules.specs.Serving.{replenished}
use Rattle.edf_pick.specs.Places.{is_on_cpu}
use Rattle.domain_run.specs.declared.task.Task.{Task}
use Rattle.domain_run.specs.declared.task.Condition.TheVariants.{Ready}
use Rattle.domain_run.specs.declared.happened.Happened.{Happened}
use Rattle.domain_run.specs.declared.happened.What.TheVariants.{Replenished}
use Rattle.task_script.specs.declared.script.Segment.{Segment}
use Rattle.task_script.specs.declared.script.Segment.TheVariants.{Run as RunFor, Until, Wait as WaitFor, End}
use Rattle.task_script.specs.script.Segments.{next_segment}
use Rattle.domain_run.specs.Conditions.{is_throttled, is_contending, is_leaving, is_over, has_come}
use Rattle.domain_run.specs.Parts.{replenish_due, settled, is_listed, started}
use Rattle.domain_run.specs.Domain.{Domain}
use Rattle.domain_run.specs.Tick.{with_tick_begun, rate_of, ticks}
use Rattle.std.proofs.lemmas.List.{append-nil, append_assoc}
use Rattle.domain_run.specs.Log.{LogView, HasLogged}
use Rattle.domain_run.specs.Jump.{under_way, ticks_to_due, ticks_to_event}
use Rattle.domain_run.specs.private.TaskTable.{LastsIf}
use Rattle.domain_run.proofs.Deferring.{ticks_twice}
use Rattle.domain_run.proofs.Leapt.{runs_if, leap_quiet}
use Rattle.domain_run.proofs.Logging.{logs_more}
use Rattle.domain_run.specs.Happened.{happened_to, due, logged_by_run, logged_if_ran, logged_by_replenishment, logged_by_wake, logged_by_unblocking, in_order, with_its_cpu, logged_to_begin, logged_by_beginning, logged_by_end, logged_by_tick, logged_by_ticks, logged_by_last_end}
use Rattle.domain_run.specs.private.DeferringTimers.{with_lag, with_lags, awake, IsBare, IsWithoutLag}
use Rattle.domain_run.proofs.Jumping.{map_twice, filter_whole, slid, slid_all, RunsIf, begun_still, ticks_slid, finished_slid}
use Rattle.domain_run.proofs.DeferringTimers.{either_lag, lag_contending, leaves_not, stays_with, lags_all, rate_fixed, woken_at, begun_lags, begun_bare, slid_ready, still_plain, slid_lags, ticks_lags}

-- ---- one task

replenishment_lag : (at time : ℕ) (lag : Option ℕ) (t : Task) → logged_by_replenishment at (with_lag time lag t) ≡ logged_by_replenishment at t
replenishment_lag at time lag t =
    either_lag (λ u. logged_by_replenishment at u ≡ logged_by_replenishment at t) time lag t refl
    (λ z. elim (is_throttled t.condition && has_come at t.server.deadline) as (λ b. cond b (happened_to at t (Replenished (due (cond b (record t { server = replenished t.params t.server; condition = Ready; zero_lag = Some z }) (record t { zero_lag = Some z })))) ∷ []) [] ≡ cond b (happened_to at t (Replenished (due (cond b (record t { server = replenished t.params t.server; condition = Ready }) t))) ∷ []) []) [
      | true ↦ refl
      | false ↦ refl
    ])

module _ (at : ℕ) (v : Task) (z : Option ℕ) where
  abbrev w : Task
  w = record v { zero_lag = z }

  wakes : (s : Segment) → logged_by_wake at w (started at s (record w { cursor = (next_segment v.cursor at).cursor })) s ≡ logged_by_wake at v (started at s (record v { cursor = (next_segment v.cursor at).cursor })) s
  wakes (RunFor n) = refl
  wakes (Until u) = refl
  wakes WaitFor = refl
  wakes End = refl

  unblocking_but : logged_by_unblocking at w ≡ logged_by_unblocking at v
  unblocking_but =
      let s = (next_segment v.cursor at).segment in
      let c = (next_segment v.cursor at).cursor in
      elim (is_over at v.condition) as (λ b. cond b (logged_by_wake at w (cond b (started at s (record w { cursor = c })) w) s) [] ≡ cond b (logged_by_wake at v (cond b (started at s (record v { cursor = c })) v) s) []) [
        | true ↦ wakes s
        | false ↦ refl
      ]

unblocking_settled : (at : ℕ) (x : Task) → logged_by_unblocking at (settled at x) ≡ logged_by_unblocking at x
unblocking_settled at x = elim (has_come at x.zero_lag) as (λ b. logged_by_unblocking at (cond b (record x { zero_lag = None }) x) ≡ logged_by_unblocking at x) [
  | true ↦ unblocking_but at x None
  | false ↦ refl
]

replenish_but : (at z : ℕ) (t : Task) → replenish_due at (record t { zero_lag = Some z }) ≡ record (replenish_due at t) { zero_lag = Some z }
replenish_but at z t = elim (is_throttled t.condition && has_come at t.server.deadline) as (λ b. cond b (record t { server = replenished t.params t.server; condition = Ready; zero_lag = Some z }) (record t { zero_lag = Some z }) ≡ record (cond b (record t { server = replenished t.params t.server; condition = Ready }) t) { zero_lag = Some z }) [ true ↦ refl | false ↦ refl ]

-- parts 1 to 3 of one that stays
abbrev asked : ℕ → Task → List Happened
asked at t = logged_by_unblocking at (settled at (replenish_due at t))

asked_lag : (at time : ℕ) (lag : Option ℕ) (t : Task) → asked at (with_lag time lag t) ≡ asked at t
asked_lag at time lag t =
    either_lag (λ u. asked at u ≡ asked at t) time lag t refl
    (λ z. unblocking_settled at (replenish_due at (record t { zero_lag = Some z }))
    ∙ ap (logged_by_unblocking at) (replenish_but at z t)
    ∙ unblocking_but at (replenish_due at t) (Some z)
    ∙ sym (unblocking_settled at (replenish_due at t)))

-- ---- all of a list

flat_lags : (f g : Task → List Happened) (time : ℕ) (lags : List (Option ℕ)) (tasks : List Task) → All (λ t. (lag : Option ℕ) → f (with_lag time lag t) ≡ g t) tasks → flat_map f (with_lags time lags tasks) ≡ flat_map g tasks
flat_lags f g time [] [] same = refl
flat_lags f g time [] (t ∷ tasks) same =
    let first : f t ≡ g t = same zero t (omega arith) None in
    let more = flat_lags f g time [] tasks (λ i d h. same (suc i) d (omega arith)) in
    λ i. first i ++ more i
flat_lags f g time (lag ∷ lags) [] same = refl
flat_lags f g time (lag ∷ lags) (t ∷ tasks) same =
    let first : f (with_lag time lag t) ≡ g t = same zero t (omega arith) lag in
    let more = flat_lags f g time lags tasks (λ i d h. same (suc i) d (omega arith)) in
    λ i. first i ++ more i

asked_whole : (at : ℕ) (tasks : List Task) → All (λ t. is_leaving t.condition ≡ false) tasks → flat_map (logged_by_unblocking at) (filter is_listed (map (settled at) (map (replenish_due at) tasks))) ≡ flat_map (asked at) tasks
asked_whole at tasks stay =
    let both = map_twice (settled at) (replenish_due at) (λ t. settled at (replenish_due at t)) tasks (λ i d h. refl) in
    let whole = filter_whole is_listed (map (λ t. settled at (replenish_due at t)) tasks) (All-map (λ x. is_listed x ≡ true) (λ t. settled at (replenish_due at t)) tasks (λ i d h. leaves_not at (get_or tasks i d) (stay i d h))) in
    ap (λ ts. flat_map (logged_by_unblocking at) (filter is_listed ts)) both
    ∙ ap (flat_map (logged_by_unblocking at)) whole
    ∙ flat_map-map (logged_by_unblocking at) (λ t. settled at (replenish_due at t)) tasks

-- ---- a tick

beginning_lags : (time : ℕ) (lags : List (Option ℕ)) (d : Domain) → time ≤ d.time → All IsWithoutLag d.tasks → logged_by_beginning (woken_at time lags d) ≡ logged_by_beginning d
beginning_lags time lags d order plain =
    let us = with_lags time lags d.tasks in
    let curr = ap (λ (e : Domain). e.curr) (begun_lags time lags d order plain) in
    let first : flat_map (logged_by_replenishment d.time) us ≡ flat_map (logged_by_replenishment d.time) d.tasks =
    flat_lags (logged_by_replenishment d.time) (logged_by_replenishment d.time) time lags d.tasks (λ i e h lag. replenishment_lag d.time time lag (get_or d.tasks i e)) in
    let second : flat_map (logged_by_unblocking d.time) (filter is_listed (map (settled d.time) (map (replenish_due d.time) us))) ≡ flat_map (logged_by_unblocking d.time) (filter is_listed (map (settled d.time) (map (replenish_due d.time) d.tasks))) =
    asked_whole d.time us (lags_all (λ t. is_leaving t.condition ≡ false) time lags d.tasks (λ i e h lag. stays_with time lag (get_or d.tasks i e) (plain i e h).stays))
    ∙ flat_lags (asked d.time) (asked d.time) time lags d.tasks (λ i e h lag. asked_lag d.time time lag (get_or d.tasks i e))
    ∙ sym (asked_whole d.time d.tasks (λ i e h. (plain i e h).stays)) in
    λ i. in_order (map (with_its_cpu (curr i)) (first i ++ second i))

end_lags : (time : ℕ) (lags : List (Option ℕ)) (b : Domain) → All IsBare b.tasks → All (λ t. is_on_cpu t.number b.curr ≡ true → t.condition ≡ Ready) b.tasks → logged_by_end (woken_at time lags b) ≡ logged_by_end b
end_lags time lags b bare ready = ap in_order (flat_lags (logged_if_ran (woken_at time lags b)) (logged_if_ran b) time lags b.tasks (λ i e h lag. one (get_or b.tasks i e) (bare i e h) (ready i e h) lag))
  where
    one : (t : Task) → IsBare t → (is_on_cpu t.number b.curr ≡ true → t.condition ≡ Ready) → (lag : Option ℕ) → logged_if_ran (woken_at time lags b) (with_lag time lag t) ≡ logged_if_ran b t
    one t is ready lag = by_runs (is_on_cpu t.number b.curr) refl
      where
        x : Domain
        x = woken_at time lags b

        number : (with_lag time lag t).number ≡ t.number
        number = either_lag (λ u. u.number ≡ t.number) time lag t refl (λ z. refl)

        by_runs : (s : Bool) → is_on_cpu t.number b.curr ≡ s → logged_if_ran x (with_lag time lag t) ≡ logged_if_ran b t
        by_runs true e =
            ap (logged_if_ran x) (lag_contending time lag t (ap is_contending (ready e)))
            ∙ ap (λ r. cond (is_on_cpu t.number b.curr) (logged_by_run b.time r t) []) (rate_fixed x b t t refl is.fixed)
        by_runs false e =
            ap (λ n. cond (is_on_cpu n b.curr) (logged_by_run b.time (rate_of x (with_lag time lag t)) (with_lag time lag t)) []) number
            ∙ ap (λ s. cond s (logged_by_run b.time (rate_of x (with_lag time lag t)) (with_lag time lag t)) []) e
            ∙ sym (ap (λ s. cond s (logged_by_run b.time (rate_of b t) t) []) e)

pub tick_lags : (time : ℕ) (lags : List (Option ℕ)) (d : Domain) → time ≤ d.time → All IsWithoutLag d.tasks → All (λ t. is_on_cpu t.number (with_tick_begun d).curr ≡ true → t.condition ≡ Ready) (with_tick_begun d).tasks → logged_by_tick (woken_at time lags d) ≡ logged_by_tick d
tick_lags time lags d order plain ready =
    let first = beginning_lags time lags d order plain in
    let last = ap logged_by_end (begun_lags time lags d order plain) ∙ end_lags d.time lags (with_tick_begun d) (begun_bare d plain) ready in
    λ i. first i ++ last i

-- ---- THE LEAP past zero-lag times that are deferred: its ticks log what they log without them

abbrev AreReady : Domain → Type 0
AreReady b = All (λ t. is_on_cpu t.number b.curr ≡ true → t.condition ≡ Ready) b.tasks

pub logged_lags : (d : Domain) (lags : List (Option ℕ)) (k : ℕ) → All IsWithoutLag d.tasks → k - 1 ≤ ticks_to_due (d.time + 1) (with_tick_begun d).tasks → All (RunsIf (with_tick_begun d) k) (with_tick_begun d).tasks
    → (j : ℕ) → j ≤ k → logged_by_ticks j (awake lags d) ≡ logged_by_ticks j d
logged_lags d lags k plain quiet runs zero h = refl
logged_lags d lags k plain quiet runs (suc zero) h = tick_lags (d.time - 1) lags d (omega arith) plain (λ i e w on_one. (runs i e w on_one).ready)
logged_lags d lags k plain quiet runs (suc (suc j)) h =
    let b = with_tick_begun d in
    let x = slid_all b (suc j) in
    let less : suc j < k = omega (arith, h) in
    let before = logged_lags d lags k plain quiet runs (suc j) (omega (arith, h)) in
    let at : ticks (suc j) (awake lags d) ≡ woken_at (d.time + j) lags x = ticks_lags d lags k plain quiet runs j (omega (arith, h)) ∙ slid_lags d lags k plain quiet runs j less in
    let there : ticks (suc j) d ≡ x = ticks_slid d k j (omega (arith, h)) quiet runs ∙ finished_slid b j k less runs in
    let stays : AreReady x = All-map (λ t. is_on_cpu t.number b.curr ≡ true → t.condition ≡ Ready) (slid b (suc j)) b.tasks (λ i e w. slid_ready b (suc j) k (get_or b.tasks i e) (runs i e w)) in
    let ready : AreReady (with_tick_begun x) = subst AreReady (sym (begun_still d (suc j) (omega arith) (omega (arith, quiet, less)))) stays in
    let one : logged_by_tick (woken_at (d.time + j) lags x) ≡ logged_by_tick x = tick_lags (d.time + j) lags x (omega arith) (still_plain d lags k plain quiet runs j less) ready in
    let last : logged_by_tick (ticks (suc j) (awake lags d)) ≡ logged_by_tick (ticks (suc j) d) = ap logged_by_tick at ∙ one ∙ sym (ap logged_by_tick there) in
    λ i. before i ++ last i

pub leap_logs_lags : (e : Domain) (lags : List (Option ℕ)) (k : ℕ) → 0 < k → k ≤ ticks_to_event (under_way e) → All (LastsIf k (under_way e).curr (under_way e).cpus (under_way e).limit (under_way e).tasks) (under_way e).tasks → All IsWithoutLag e.tasks
    → logged_by_ticks k (awake lags e) ≡ logged_by_beginning e ++ logged_by_last_end k e
leap_logs_lags e lags k some quiet lasts plain = logged_lags e lags k plain (omega (arith, quiet)) (runs_if e k some quiet lasts) k (omega arith) ∙ leap_quiet e k some quiet lasts

-- so many ticks, and then so many more
logged_twice : (m k : ℕ) (d : Domain) → logged_by_ticks m d ++ logged_by_ticks k (ticks m d) ≡ logged_by_ticks (m + k) d
logged_twice m zero d = append-nil (logged_by_ticks m d) ∙ (let same : m ≡ m + 0 = omega arith in ap (λ n. logged_by_ticks n d) same)
logged_twice m (suc k) d =
    let next : suc (m + k) ≡ m + suc k = omega arith in
    sym (append_assoc (logged_by_ticks m d) (logged_by_ticks k (ticks m d)) (logged_by_tick (ticks k (ticks m d))))
    ∙ (λ i. logged_twice m k d i ++ logged_by_tick (ticks_twice m k d i))
    ∙ ap (λ n. logged_by_ticks n d) next

pub logs_twice : (m k : ℕ) (d e : Domain) (a b c : LogView) → e ≡ ticks m d → HasLogged a (logged_by_ticks m d) b → HasLogged b (logged_by_ticks k e) c → HasLogged a (logged_by_ticks (m + k) d) c
logs_twice m k d e a b c is one two =
    subst (λ (hs : List Happened). HasLogged a hs c) (ap (λ (x : Domain). logged_by_ticks m d ++ logged_by_ticks k x) is ∙ logged_twice m k d)
    (logs_more (logged_by_ticks m d) (logged_by_ticks k e) a b c one two)
