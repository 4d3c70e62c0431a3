-- What many ticks at once log: the beginning of the first, and the end of the last.
use Rattle.std.proofs.Common.{◌≡◌, ◌≢◌, ℕ, zero, suc, ◌+◌, ◌-◌, ◌*◌, ◌<◌, ◌≤◌, Bool, true, false, cond, eqb, Option, Some, None, List, [], ◌∷◌, ◌++◌, map, get_or, refl, sym, ap, ◌∙◌, arith}
use Rattle.std.specs.Prelude.{ℤ, pos, ◌-ℤ◌, All, AllPairs, filter}
use Rattle.std.specs.List.{flat_map}
use Rattle.std.proofs.lemmas.Bool.{ne_eqb}
use Rattle.std.proofs.lemmas.List.{append-nil}
use Rattle.std.proofs.lemmas.List.Folds.{flat_map-map}
use Rattle.std.proofs.lemmas.List.Elements.{All-map, All-weaker}
use Rattle.cbs_rules.specs.Serving.{charged}
use Rattle.edf_pick.specs.Places.{is_on_cpu}
use Rattle.domain_run.specs.declared.task.Task.{Task}
use Rattle.domain_run.specs.declared.happened.Happened.{Happened}
use Rattle.domain_run.specs.declared.happened.What.TheVariants.{Spent, Replenished}
use Rattle.domain_run.specs.Conditions.{is_throttled}
use Rattle.task_script.specs.script.Segments.{passes_late_timer, next_segment}
use Rattle.domain_run.specs.Parts.{replenish_due, settled, is_listed, unblocked}
use Rattle.domain_run.specs.Domain.{Domain}
use Rattle.domain_run.specs.Tick.{with_tick_begun, rate_of, ticks}
use Rattle.domain_run.specs.Jump.{under_way, ticks_to_due, ticks_to_due_of, ticks_to_event, running_numbers, AreCharged}
use Rattle.domain_run.specs.Sound.{IsSteady, IsPlacement}
use Rattle.domain_run.specs.Happened.{happened_to, due, logged_by_segment, logged_by_work, logged_by_budget, logged_by_run, logged_if_ran, logged_by_replenishment, logged_by_wake, logged_by_unblocking, in_order, with_its_cpu, logged_by_beginning, logged_by_end, logged_by_tick, logged_by_ticks, logged_by_last_end}
use Rattle.domain_run.specs.private.Paying.{ran_until, index_of}
use Rattle.domain_run.specs.private.TransitionLog.{logged_until, logged_paid, logged_paid_at, logged_of_parts, logged_in_pay}
use Rattle.domain_run.proofs.KeptRunning.{map_itself}
use Rattle.domain_run.proofs.Jumping.{IsStill, still_before, rest_each, rest_alike, alike_slid, filter_whole, slid, slid_all, slid_none, Runs, RunsIf, rate_slid, less_twice, run_by, run_on, finished_slid, begun_still, ticks_slid}
use Rattle.domain_run.proofs.Paying.{there, nowhere, charged_there, runs_each}
use Rattle.domain_run.proofs.LoggedChanges.{logged_nothing, logged_alike}

-- ---- parts 1 to 3 have nothing to do, and log nothing

pub parts_still : (time : ℕ) (tasks : List Task) → All (IsStill time) tasks → logged_of_parts time tasks ≡ []
parts_still time tasks still =
    let due_none : flat_map (logged_by_replenishment time) tasks ≡ [] = logged_nothing (logged_by_replenishment time) tasks
    (All-weaker (IsStill time) (λ t. logged_by_replenishment time t ≡ []) (λ t is. ap (λ b. cond b (happened_to time t (Replenished (due (replenish_due time t))) ∷ []) []) is.due) tasks still) in
    let over_none : flat_map (logged_by_unblocking time) tasks ≡ [] = logged_nothing (logged_by_unblocking time) tasks
    (All-weaker (IsStill time) (λ t. logged_by_unblocking time t ≡ []) (λ t is. ap (λ b. cond b (logged_by_wake time t (unblocked time t) (next_segment t.cursor time).segment) []) is.over) tasks still) in
    let due : map (replenish_due time) tasks ≡ tasks = map_itself (replenish_due time) tasks (λ k d h. let t = get_or tasks k d in rw (still k d h).due refl) in
    let lag : map (settled time) tasks ≡ tasks = map_itself (settled time) tasks (λ k d h. let t = get_or tasks k d in rw (still k d h).lag refl) in
    let listed : filter is_listed tasks ≡ tasks = filter_whole is_listed tasks (λ k d h. (still k d h).listed) in
    let same : filter is_listed (map (settled time) (map (replenish_due time) tasks)) ≡ tasks = ap (λ ts. filter is_listed (map (settled time) ts)) due ∙ ap (λ ts. filter is_listed ts) lag ∙ listed in
    (λ i. due_none i ++ flat_map (logged_by_unblocking time) (same i)) ∙ over_none

beginning_still : (d : Domain) (j : ℕ) → 0 < j → j ≤ ticks_to_due (d.time + 1) (with_tick_begun d).tasks → logged_by_beginning (slid_all (with_tick_begun d) j) ≡ []
beginning_still d j some h =
    let b = with_tick_begun d in
    let f = slid b j in
    let same = alike_slid b j in
    let c = slid_all b j in
    ap (λ hs. in_order (map (with_its_cpu (with_tick_begun c).curr) hs)) (parts_still c.time c.tasks (All-map (IsStill c.time) f b.tasks
    (All-weaker (λ t. j ≤ ticks_to_due_of (d.time + 1) t) (λ t. IsStill c.time (f t)) (λ t k. still_before d.time j (f t) some (rw (rest_alike (d.time + 1) t (f t) (same t)) k)) b.tasks (rest_each (d.time + 1) j b.tasks h))))

-- ---- a tick of running, after so many

logged_slid : (b : Domain) (j : ℕ) (t : Task) → logged_if_ran (slid_all b j) (slid b j t) ≡ cond (is_on_cpu t.number b.curr) (logged_until (b.time + suc j) (suc j) (t.server.left -ℤ pos (rate_of b t * suc j)) t) []
logged_slid b j t = by_runs (is_on_cpu t.number b.curr) refl
  where
    x : Task
    x = record t { server = charged (rate_of b t) j t.server; work = t.work - j }

    e : Domain
    e = slid_all b j

    by_run : ℕ → ℤ → ℕ → List Happened
    by_run time left work = logged_by_work time (record t { server = record t.server { left = left }; work = work }) ++ logged_by_budget time (run_by time left work t)

    by_runs : (s : Bool) → is_on_cpu t.number b.curr ≡ s → logged_if_ran e (cond s x t) ≡ cond s (logged_until (b.time + suc j) (suc j) (t.server.left -ℤ pos (rate_of b t * suc j)) t) []
    by_runs false at = ap (λ s. cond s (logged_by_run e.time (rate_of e t) t) []) at
    by_runs true at =
        let rate = rate_slid b j t x refl refl in
        let time : b.time + j + 1 ≡ b.time + suc j = omega arith in
        let left = less_twice t.server.left (rate_of b t) j in
        let work : t.work - j - 1 ≡ t.work - suc j = omega arith in
        ap (λ s. cond s (logged_by_run e.time (rate_of e x) x) []) at
        ∙ ap (λ r. logged_by_run e.time r x) rate
        ∙ (λ i. by_run (time i) (left i) (work i))

-- where it is not the last of anything it logs nothing
quiet_until : (b : Domain) (j k : ℕ) (t : Task) → suc j < k → Runs b k t → logged_until (b.time + suc j) (suc j) (t.server.left -ℤ pos (rate_of b t * suc j)) t ≡ []
quiet_until b j k t less is =
    let time = b.time + suc j in
    let left = t.server.left -ℤ pos (rate_of b t * suc j) in
    let x : Task = record t { server = record t.server { left = left }; work = t.work - suc j } in
    let more : eqb (t.work - suc j) 0 ≡ false = ne_eqb (t.work - suc j) 0 (λ q. absurd (omega (arith, q, less, is.worked))) in
    ap (λ w. cond w (logged_by_segment time x (passes_late_timer x.cursor time) (next_segment x.cursor time).segment) [] ++ logged_by_budget time (ran_until time (suc j) left t)) more
    ∙ ap (logged_by_budget time) (run_on b j k t less is)
    ∙ ap (λ c. cond (is_throttled c) (happened_to time x (Spent (due x)) ∷ []) []) is.ready

quiet_end : (b : Domain) (j k : ℕ) → suc j < k → All (RunsIf b k) b.tasks → logged_by_end (slid_all b j) ≡ []
quiet_end b j k less runs =
    let e = slid_all b j in
    ap in_order (flat_map-map (logged_if_ran e) (slid b j) b.tasks
    ∙ logged_nothing (λ t. logged_if_ran e (slid b j t)) b.tasks (All-weaker (RunsIf b k) (λ t. logged_if_ran e (slid b j t) ≡ []) (λ t is. logged_slid b j t ∙ by_runs t (is_on_cpu t.number b.curr) is) b.tasks runs))
  where
    by_runs : (t : Task) (s : Bool) → (s ≡ true → Runs b k t) → cond s (logged_until (b.time + suc j) (suc j) (t.server.left -ℤ pos (rate_of b t * suc j)) t) [] ≡ []
    by_runs t true is = quiet_until b j k t less (is refl)
    by_runs t false is = refl

-- ---- THE TICKS of a jump

begun_ticks : (d : Domain) (k j : ℕ) → j < k → k - 1 ≤ ticks_to_due (d.time + 1) (with_tick_begun d).tasks → All (RunsIf (with_tick_begun d) k) (with_tick_begun d).tasks → with_tick_begun (ticks j d) ≡ slid_all (with_tick_begun d) j
begun_ticks d k zero h quiet runs = sym (slid_none (with_tick_begun d))
begun_ticks d k (suc j) h quiet runs =
    ap with_tick_begun (ticks_slid d k j (omega (arith, h)) quiet runs ∙ finished_slid (with_tick_begun d) j k h runs)
    ∙ begun_still d (suc j) (omega arith) (omega (arith, quiet, h))

logged_jump : (d : Domain) (k j : ℕ) → j < k → k - 1 ≤ ticks_to_due (d.time + 1) (with_tick_begun d).tasks → All (RunsIf (with_tick_begun d) k) (with_tick_begun d).tasks → logged_by_ticks (suc j) d ≡ logged_by_beginning d ++ logged_by_end (slid_all (with_tick_begun d) j)
logged_jump d k zero h quiet runs = ap (λ e. logged_by_beginning d ++ logged_by_end e) (sym (slid_none (with_tick_begun d)))
logged_jump d k (suc j) h quiet runs =
    let b = with_tick_begun d in
    let e = slid_all b (suc j) in
    let before : logged_by_ticks (suc j) d ≡ logged_by_beginning d = logged_jump d k j (omega (arith, h)) quiet runs ∙ ap (λ hs. logged_by_beginning d ++ hs) (quiet_end b j k h runs) ∙ append-nil (logged_by_beginning d) in
    let at : ticks (suc j) d ≡ e = ticks_slid d k j (omega (arith, h)) quiet runs ∙ finished_slid b j k h runs in
    let still : with_tick_begun e ≡ e = begun_still d (suc j) (omega arith) (omega (arith, quiet, h)) in
    let last : logged_by_tick e ≡ logged_by_end e = (λ i. beginning_still d (suc j) (omega arith) (omega (arith, quiet, h)) i ++ logged_by_end (still i)) in
    (λ i. before i ++ logged_by_tick (at i)) ∙ ap (λ hs. logged_by_beginning d ++ hs) last

-- neither begins nor ends within them anything else
pub leap_logs : (d : Domain) (k : ℕ) → 0 < k → k ≤ ticks_to_event (under_way d) → All (RunsIf (with_tick_begun d) k) (with_tick_begun d).tasks
    → logged_by_ticks k d ≡ logged_by_beginning d ++ logged_by_last_end k d
leap_logs d zero some quiet runs = absurd (omega (arith, some))
leap_logs d (suc j) some quiet runs =
    logged_jump d (suc j) j (omega arith) (omega (arith, quiet)) runs
    ∙ ap (λ e. logged_by_beginning d ++ logged_by_end e) (sym (begun_ticks d (suc j) j (omega arith) (omega (arith, quiet)) runs))
    ∙ (let same : j ≡ suc j - 1 = omega arith in ap (λ n. logged_by_beginning d ++ logged_by_end (with_tick_begun (ticks n d))) same)

-- what a task logs at the end of so many ticks, where it runs
abbrev pub logged_if_leapt : Domain → ℕ → Task → List Happened
logged_if_leapt b k t = cond (is_on_cpu t.number b.curr) (logged_until (b.time + k) k (t.server.left -ℤ pos (rate_of b t * k)) t) []

-- the last end, task by task, from the tasks as they run where the leap begins
pub last_end_is : (d : Domain) (k : ℕ) → 0 < k → k ≤ ticks_to_event (under_way d) → All (RunsIf (with_tick_begun d) k) (with_tick_begun d).tasks
    → logged_by_last_end k d ≡ in_order (flat_map (logged_if_leapt (with_tick_begun d) k) (with_tick_begun d).tasks)
last_end_is d zero some quiet runs = absurd (omega (arith, some))
last_end_is d (suc j) some quiet runs =
    let b = with_tick_begun d in
    let c = slid_all b j in
    let same : suc j - 1 ≡ j = omega arith in
    ap (λ n. logged_by_end (with_tick_begun (ticks n d))) same
    ∙ ap logged_by_end (begun_ticks d (suc j) j (omega arith) (omega (arith, quiet)) runs)
    ∙ ap in_order (flat_map-map (logged_if_ran c) (slid b j) b.tasks
    ∙ logged_alike (λ t. logged_if_ran c (slid b j t)) (logged_if_leapt b (suc j)) b.tasks (λ i x h. logged_slid b j (get_or b.tasks i x)))

-- ---- as the code has it

logged_each : (e : Domain) (time ticks : ℕ) (budgets : List ℤ) → AllPairs (λ a b. a.number ≢ b.number) e.tasks → AreCharged e ticks budgets
    → All (λ t. logged_paid time (running_numbers e.curr) ticks budgets t ≡ cond (is_on_cpu t.number e.curr) (logged_until time ticks (t.server.left -ℤ pos (rate_of e t * ticks)) t) []) e.tasks
logged_each e time ticks budgets numbered are k d h = by_index (index_of (running_numbers e.curr) (get_or e.tasks k d)) refl
  where
    by_index : (o : Option ℕ) → index_of (running_numbers e.curr) (get_or e.tasks k d) ≡ o
        → logged_paid_at time ticks budgets o (get_or e.tasks k d) ≡ cond (is_on_cpu (get_or e.tasks k d).number e.curr) (logged_until time ticks ((get_or e.tasks k d).server.left -ℤ pos (rate_of e (get_or e.tasks k d) * ticks)) (get_or e.tasks k d)) []
    by_index None at =
        let t = get_or e.tasks k d in
        sym (ap (λ b. cond b (logged_until time ticks (t.server.left -ℤ pos (rate_of e t * ticks)) t) []) (nowhere e.curr t.number at))
    by_index (Some i) at =
        let t = get_or e.tasks k d in
        let is = charged_there e ticks budgets k i d numbered are h at in
        ap (λ left. logged_until time ticks left t) is.charged
        ∙ sym (ap (λ b. cond b (logged_until time ticks (t.server.left -ℤ pos (rate_of e t * ticks)) t) []) (there e.curr t.number i at).runs_there)

-- what the running tasks of a jump log is the end of its last tick
pub logged_pay_is : (d : Domain) (k : ℕ) (budgets : List ℤ) (time : ℕ) → IsSteady (under_way d) → IsPlacement (under_way d) → 0 < k → k ≤ ticks_to_event (under_way d) → AreCharged (under_way d) k budgets
    → time ≡ (under_way d).time + (k - 1) → logged_in_pay time (running_numbers (under_way d).curr) k budgets (under_way d).tasks ≡ logged_by_last_end k d
logged_pay_is d zero budgets time steady placed some quiet are at = absurd (omega (arith, some))
logged_pay_is d (suc j) budgets time steady placed some quiet are at =
    let e = under_way d in
    let b = with_tick_begun d in
    let c = slid_all b j in
    let clock : time ≡ b.time + suc j = omega (arith, at) in
    let runs : All (RunsIf b (suc j)) b.tasks = λ i x h on_one. let r = runs_each e (suc j) budgets steady.numbered placed are i x h on_one in record { ready = r.ready; worked = r.worked; lasted = r.lasted } in
    let alike : flat_map (logged_paid time (running_numbers e.curr) (suc j) budgets) b.tasks ≡ flat_map (λ t. logged_if_ran c (slid b j t)) b.tasks =
    logged_alike (logged_paid time (running_numbers e.curr) (suc j) budgets) (λ t. logged_if_ran c (slid b j t)) b.tasks
    (λ i x h. logged_each e time (suc j) budgets steady.numbered are i x h ∙ ap (λ n. let t = get_or b.tasks i x in cond (is_on_cpu t.number b.curr) (logged_until n (suc j) (t.server.left -ℤ pos (rate_of b t * suc j)) t) []) clock ∙ sym (logged_slid b j (get_or b.tasks i x))) in
    ap in_order (alike ∙ sym (flat_map-map (logged_if_ran c) (slid b j) b.tasks))
    ∙ ap logged_by_end (sym (begun_ticks d (suc j) j (omega arith) (omega (arith, quiet)) runs))
    ∙ (let same : j ≡ suc j - 1 = omega arith in ap (λ n. logged_by_end (with_tick_begun (ticks n d))) same)

-- and its ticks tell this alone after the first beginning
pub logged_ticks_is : (d : Domain) (k : ℕ) (budgets : List ℤ) → IsSteady (under_way d) → IsPlacement (under_way d) → 0 < k → k ≤ ticks_to_event (under_way d) → AreCharged (under_way d) k budgets
    → logged_by_ticks k d ≡ logged_by_beginning d ++ logged_by_last_end k d
logged_ticks_is d k budgets steady placed some quiet are =
    leap_logs d k some quiet (λ i x h on_one. let r = runs_each (under_way d) k budgets steady.numbered placed are i x h on_one in record { ready = r.ready; worked = r.worked; lasted = r.lasted })
