-- What parts 1 to 3 of a tick do to a task whose script keeps its budget.
use Rattle.std.proofs.Common.{◌≡◌, ℕ, suc, ◌+◌, ◌*◌, ◌<◌, ◌≤◌, Bool, true, false, cond, ◌&&◌, leb, Option, Some, None, List, [], ◌∷◌, ◌++◌, length, map, refl, sym, ap, subst, ◌∙◌, arith}
use Rattle.std.specs.Prelude.{IfSome, filter}
use Rattle.std.specs.List.{flat_map}
use Rattle.std.proofs.lemmas.Bool.{false≢true, le-leb, leb-true, leb-false}
use Rattle.std.proofs.Math.Nat.{mul-le-mul_right}
use Rattle.attr_check.specs.ParamsView.{ParamsView}
use Rattle.cbs_rules.specs.Budget.{budget}
use Rattle.cbs_rules.specs.Serving.{replenished}
use Rattle.task_script.specs.declared.script.Segment.{Segment}
use Rattle.task_script.specs.declared.script.Segment.TheVariants.{Run as RunFor, Until, Wait as WaitFor, End}
use Rattle.task_script.specs.script.ScriptView.{CursorView}
use Rattle.task_script.specs.script.Segments.{passes_late_timer, next_segment}
use Rattle.domain_run.specs.declared.task.Task.{Task}
use Rattle.domain_run.specs.declared.task.Condition.{Condition}
use Rattle.domain_run.specs.declared.task.Condition.TheVariants.{Ready, Throttled, Blocked, Waiting, Leaving}
use Rattle.domain_run.specs.declared.happened.Happened.{Happened}
use Rattle.domain_run.specs.declared.happened.What.TheVariants.{Replenished, Released, WokenSpent}
use Rattle.domain_run.specs.Conditions.{is_throttled, is_over, has_come}
use Rattle.domain_run.specs.Parts.{replenish_due, settled, is_listed, started, starts, unblocked}
use Rattle.domain_run.specs.Happened.{happened_to, due, job_due, logged_by_replenishment, logged_by_wake, logged_by_unblocking}
use Rattle.run_figures.specs.declared.job.Job.{Job}
use Rattle.run_figures.specs.Jobs.{new_job}
use Rattle.deadline_promise.specs.KeptBudget.{work_from}
use Rattle.deadline_promise.proofs.Kept.{IsPaced, IsFit}
use Rattle.deadline_promise.proofs.Asking.{GivenIn, IsAsked, asked}
use Rattle.deadline_promise.proofs.Jobs.{over_in, open_after}
use Rattle.deadline_promise.proofs.OnTime.{Fits, Runs, Holds, Rests, OnTimeIn, MidIn, Keeps, keeps_on, OnTime, Mid, AreMid}
use Rattle.deadline_promise.proofs.Renewing.{replenished_new, enqueued_new}
use Rattle.limits.specs.Limits.{unit}

append_none : {X : Type 0} (xs : List X) → xs ++ [] ≡ xs
append_none [] = refl
append_none (x ∷ xs) = ap (λ ys. x ∷ ys) (append_none xs)

-- what is logged of the tasks of a number where a tick begins, and who is left of them
abbrev pub logged_to_wake : ℕ → List Task → List Happened
logged_to_wake time ts =
    flat_map (logged_by_unblocking time) (filter is_listed (map (settled time) ts))

abbrev pub woken_up : ℕ → List Task → List Task
woken_up time ts = map (unblocked time) (filter is_listed (map (settled time) ts))

-- no job is over by that, at most one thing is logged, and the tasks are ready for part 6
pub record Begins (time : ℕ) (o : Option Job) (logged : List Happened) (after : List Task) : Type 0 where
  pub few : length logged ≤ 1
  pub over : over_in o logged ≡ []
  pub tasks : AreMid time after (open_after o logged)

-- the work that a job may ask for is no more than a budget
pub new_fits : (p : ParamsView) (c d : CursorView) (n : ℕ) → Keeps p c → ((count : ℕ) → n + work_from d.script d.place count ≡ work_from c.script c.place (suc count)) → Fits d n (budget p)
new_fits p c d n keeps same count =
    let most : n + work_from d.script d.place count ≤ p.runtime = omega (arith, same count, keeps.budgets.work c.place (suc count)) in
    mul-le-mul_right unit most

pub earlier : (o : Option ℕ) (u v : ℕ) → u ≤ v → IfSome o (λ d. d ≤ u) → IfSome o (λ d. d ≤ v)
earlier None u v less h = h
earlier (Some d) u v less h = omega (arith, less, h)

logged_release : (o : Option Job) (h : Happened) (deadline : ℕ) → h.what ≡ Released deadline → o ≡ None → over_in o (h ∷ []) ≡ []
logged_release o h deadline is none =
    subst (λ x. over_in x (h ∷ []) ≡ []) (sym none) refl

logged_replenishment : (o : Option Job) (time deadline number cpu : ℕ) → over_in o (record { time = time; what = Replenished deadline; number = number; cpu = cpu } ∷ []) ≡ []
logged_replenishment None time deadline number cpu = refl
logged_replenishment (Some j) time deadline number cpu = refl

-- ---- a task that wakes now, by what its script gives
module _ (time : ℕ) (o : Option Job) (t : Task) (c : CursorView) (paced : IsPaced t) (keeps : Keeps t.params c) (none : o ≡ None) (past : IfSome t.server.deadline (λ d. d ≤ time)) where
  wakes : (s : Segment) (d : CursorView) → d.script ≡ c.script → GivenIn t.params.period c time time d s
      → Begins time o (logged_by_wake time t (started time s (record t { cursor = d })) s ++ []) (started time s (record t { cursor = d }) ∷ [])
  wakes (RunFor n) d same g =
      let u : Task = record t { cursor = d; zero_lag = None; work = n } in
      let release = happened_to time t (Released (job_due time t)) in
      enqueued_new
      (λ w. Begins time o ((release ∷ cond (is_throttled w.condition) (happened_to time t (WokenSpent (due w)) ∷ []) []) ++ []) (w ∷ []))
      time u t.server paced.share paced.whole past
      (λ s new. record {
        few = omega arith;
        over = logged_release o release (job_due time t) refl none;
        tasks = (
          keeps_on t.params c d same keeps,
          record {
            release = time;
            past = omega arith;
            due = new.0;
            throttled = 0;
            job = ap (λ k. Some (new_job time (time + k))) paced.share.whole_period;
            some = g.0;
            fits = λ count. subst (λ k. (n + work_from d.script d.place count) * unit ≤ k) (sym new.1) (new_fits t.params c d n keeps g.1 count);
            refers = g.2;
          },
        );
      })
  wakes (Until v) d same g =
      record { few = omega arith; over = refl; tasks = (keeps_on t.params c d same keeps, record { none = none; ahead = omega (arith, g.1); due = earlier t.server.deadline time v (omega (arith, g.1)) past; refers = g.2 }) }
  wakes WaitFor d same g = absurd g
  wakes End d same g = record { few = omega arith; over = refl; tasks = (keeps_on t.params c d same keeps, none) }

-- ---- a blocked task
pub blocked_begins : (time u : ℕ) (o : Option Job) (t : Task) → IsPaced t → t.condition ≡ Blocked u → Keeps t.params t.cursor → Rests time u t.server t.cursor o → Begins time o (logged_by_unblocking time t ++ []) (unblocked time t ∷ [])
blocked_begins time u o t paced is keeps rests =
    let a = next_segment t.cursor time in
    let w = starts time t a in
    subst (λ c. Begins time o (cond (is_over time c) (logged_by_wake time t (cond (is_over time c) w t) a.segment) [] ++ []) (cond (is_over time c) w t ∷ [])) (sym is)
    (elim (leb u time) as (λ b. leb u time ≡ b → Begins time o (cond b (logged_by_wake time t (cond b w t) a.segment) [] ++ []) (cond b w t ∷ [])) [
      | true ↦ λ e.
          let now : u ≡ time = omega (arith, leb-true u time e, rests.ahead) in
          let refers = subst (λ k. Rests time k t.server t.cursor o) now rests in
          let ask = asked t.params.runtime t.params.period t.cursor time time keeps.budgets keeps.script paced.share.some refers.refers (omega arith) in
          let soon : passes_late_timer t.cursor time ≡ false = not_late (passes_late_timer t.cursor time) refl ask in
          let g = ask.soon soon in
          wakes time o t t.cursor paced keeps rests.none refers.due a.segment a.cursor g.script g.is
      | false ↦ λ e.
          let later : time < u = leb-false u time e in
          record { few = omega arith; over = refl; tasks = (keeps, subst (λ c. MidIn time t.params t.server t.work t.cursor o c) (sym is) (record { none = rests.none; ahead = omega (arith, later); due = rests.due; refers = rests.refers })) }
    ] refl)
  where
    not_late : (b : Bool) → passes_late_timer t.cursor time ≡ b → IsAsked t.params.period t.cursor time time → b ≡ false
    not_late false e ask = refl
    not_late true e ask = let more : time + t.params.period ≤ time = (ask.late e).0 in absurd (omega (arith, more, paced.share.some))

-- ---- parts 2 and 3, of a task whose condition is known
abbrev Woken : ℕ → Option Job → List Happened → Task → Type 0
Woken time o logged t = Begins time o (logged ++ logged_to_wake time (t ∷ [])) (woken_up time (t ∷ []))

-- a task that is ready stays so
ready_wakes : (time : ℕ) (o q : Option Job) (logged : List Happened) (t : Task) → t.condition ≡ Ready → Keeps t.params t.cursor → length logged ≤ 1 → over_in o logged ≡ [] → open_after o logged ≡ q → Runs time t.params t.server t.work t.cursor q → Woken time o logged t
ready_wakes time o q logged t is keeps few over after runs =
    let u : Task = record t { zero_lag = None } in
    subst (λ (x : Task). Woken time o logged x) (ap (λ c. record t { condition = c }) (sym is))
    (elim (has_come time t.zero_lag) as (λ b. Begins time o (logged ++ flat_map (logged_by_unblocking time) (filter is_listed (cond b (record u { condition = Ready }) (record t { condition = Ready }) ∷ []))) (map (unblocked time) (filter is_listed (cond b (record u { condition = Ready }) (record t { condition = Ready }) ∷ [])))) [
      | true ↦ logged_nothing (record u { condition = Ready }) (keeps, runs)
      | false ↦ logged_nothing (record t { condition = Ready }) (keeps, runs)
    ])
  where
    logged_nothing : (x : Task) → Mid time x q → Begins time o (logged ++ []) (x ∷ [])
    logged_nothing x mid =
        subst (λ hs. Begins time o hs (x ∷ [])) (sym (append_none logged))
        (record { few = few; over = over; tasks = subst (Mid time x) (sym after) mid })

-- a blocked one
blocked_wakes : (time u : ℕ) (o : Option Job) (t : Task) → t.condition ≡ Blocked u → IsPaced t → Keeps t.params t.cursor → Rests time u t.server t.cursor o → Woken time o [] t
blocked_wakes time u o t is paced keeps rests =
    let x : Task = record t { zero_lag = None } in
    let a : Task = record x { condition = Blocked u } in
    let b : Task = record t { condition = Blocked u } in
    let still : IsPaced b = record { share = paced.share; whole = paced.whole; dated = λ y. absurd (false≢true y) } in
    subst (λ (y : Task). Woken time o [] y) (ap (λ c. record t { condition = c }) (sym is))
    (elim (has_come time t.zero_lag) as (λ z. Begins time o (flat_map (logged_by_unblocking time) (filter is_listed (cond z a b ∷ []))) (map (unblocked time) (filter is_listed (cond z a b ∷ [])))) [
      | true ↦ blocked_begins time u o a (record { share = still.share; whole = still.whole; dated = still.dated }) refl keeps rests
      | false ↦ blocked_begins time u o b still refl keeps rests
    ])

-- one that leaves goes off the list, or stays a while
leaving_wakes : (time : ℕ) (o : Option Job) (t : Task) → t.condition ≡ Leaving → Keeps t.params t.cursor → o ≡ None → Woken time o [] t
leaving_wakes time o t is keeps none =
    subst (λ (y : Task). Woken time o [] y) (ap (λ c. record t { condition = c }) (sym is))
    (by_listing (settled time (record t { condition = Leaving })) (still (has_come time t.zero_lag)))
  where
    still : (z : Bool) → Mid time (cond z (record t { condition = Leaving; zero_lag = None }) (record t { condition = Leaving })) o × ((cond z (record t { condition = Leaving; zero_lag = None }) (record t { condition = Leaving })).condition ≡ Leaving)
    still true = ((keeps, none), refl)
    still false = ((keeps, none), refl)

    stays_so : (x : Task) → Mid time x o → x.condition ≡ Leaving → Begins time o (logged_by_unblocking time x ++ []) (unblocked time x ∷ [])
    stays_so x mid e =
        let a = next_segment x.cursor time in
        let w = starts time x a in
        let asleep : is_over time x.condition ≡ false = ap (is_over time) e in
        subst (λ b. Begins time o (cond b (logged_by_wake time x (cond b w x) a.segment) [] ++ []) (cond b w x ∷ [])) (sym asleep)
        (record { few = omega arith; over = refl; tasks = mid })

    by_listing : (x : Task) → Mid time x o × (x.condition ≡ Leaving) → Begins time o (flat_map (logged_by_unblocking time) (filter is_listed (x ∷ []))) (map (unblocked time) (filter is_listed (x ∷ [])))
    by_listing x h =
        elim (is_listed x) as (λ l. Begins time o (flat_map (logged_by_unblocking time) (cond l (x ∷ []) [])) (map (unblocked time) (cond l (x ∷ []) []))) [
          | true ↦ stays_so x h.0 h.1
          | false ↦ record { few = omega arith; over = refl; tasks = none }
        ]

-- ---- PARTS 1 TO 3 of a task
throttled_begins : (time : ℕ) (o : Option Job) (t : Task) → t.condition ≡ Throttled → IsPaced t → IsFit t → Keeps t.params t.cursor → Holds time t.params t.server t.work t.cursor o → Woken time o (logged_by_replenishment time t) (replenish_due time t)
throttled_begins time o t is paced fit keeps holds =
    let p = t.params in
    let r = replenished p t.server in
    let x : Task = record t { server = r; condition = Ready } in
    let new = replenished_new p time t.server holds.due paced.whole (fit.spent (ap is_throttled is)) in
    let come : (is_throttled t.condition && has_come time t.server.deadline) ≡ true =
    ap (λ c. is_throttled c && has_come time t.server.deadline) is ∙ ap (has_come time) holds.due ∙ le-leb time time (omega arith) in
    let logged = happened_to time t (Replenished (due (replenish_due time t))) in
    subst (λ b. Woken time o (cond b (logged ∷ []) []) (cond b x t)) (sym come)
    (ready_wakes time o o (logged ∷ []) x refl keeps (omega arith) (logged_replenishment o time (due (replenish_due time t)) t.number t.cpu) refl
    (record {
      release = time;
      past = omega arith;
      due = new.0;
      throttled = holds.throttled;
      job = holds.job;
      some = holds.some;
      fits = λ count. subst (λ k. (t.work + work_from t.cursor.script t.cursor.place count) * unit ≤ k) (sym new.1) (holds.fits count);
      refers = holds.refers;
    }))

not_due : (time : ℕ) (o : Option Job) (t : Task) (c : Condition) → t.condition ≡ c → is_throttled c ≡ false → Woken time o [] t → Woken time o (logged_by_replenishment time t) (replenish_due time t)
not_due time o t c is awake w =
    let r : Task = record t { server = replenished t.params t.server; condition = Ready } in
    let come : (is_throttled t.condition && has_come time t.server.deadline) ≡ false =
    ap (λ d. is_throttled d && has_come time t.server.deadline) is ∙ ap (λ b. b && has_come time t.server.deadline) awake in
    subst (λ b. Woken time o (cond b (happened_to time t (Replenished (due (replenish_due time t))) ∷ []) []) (cond b r t)) (sym come) w

pub begins : (time : ℕ) (o : Option Job) (t : Task) → IsPaced t → IsFit t → OnTime time t o → Woken time o (logged_by_replenishment time t) (replenish_due time t)
begins time o t paced fit (keeps, on) = by_condition t.condition refl on
  where
    by_condition : (c : Condition) → t.condition ≡ c → OnTimeIn time t.params t.server t.work t.cursor o c → Woken time o (logged_by_replenishment time t) (replenish_due time t)
    by_condition Ready is runs = not_due time o t Ready is refl (ready_wakes time o o [] t is keeps (omega arith) refl refl runs)
    by_condition Throttled is holds = throttled_begins time o t is paced fit keeps holds
    by_condition (Blocked u) is rests = not_due time o t (Blocked u) is refl (blocked_wakes time u o t is paced keeps rests)
    by_condition Waiting is h = absurd h
    by_condition Leaving is none = not_due time o t Leaving is refl (leaving_wakes time o t is keeps none)
