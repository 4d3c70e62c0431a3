-- What part 6 of a tick does to a task whose script keeps its budget.
use Rattle.std.proofs.Common.{◌≡◌, ℕ, zero, suc, ◌+◌, ◌-◌, ◌*◌, ◌<◌, ◌≤◌, true, false, cond, eqb, Option, Some, None, List, [], ◌∷◌, ◌++◌, refl, sym, ap, subst, ◌∙◌, arith}
use Rattle.std.specs.Prelude.{ℤ, pos, negsuc, int_le, All, AllPairs, IfSome}
use Rattle.std.proofs.lemmas.Bool.{false≢true, eqb-true}
use Rattle.std.proofs.lemmas.Int.{ints}
use Rattle.std.proofs.lemmas.List.Elements.{All-nil, All-cons}
use Rattle.std.proofs.Math.Nat.{mul-le-mul_right}
use Rattle.cbs_rules.specs.Budget.{above_zero}
use Rattle.cbs_rules.specs.Serving.{charged}
use Rattle.task_script.specs.declared.script.Segment.{Segment}
use Rattle.task_script.specs.declared.script.Segment.TheVariants.{Run as RunFor, Until, Wait as WaitFor, End}
use Rattle.task_script.specs.script.ScriptView.{CursorView}
use Rattle.task_script.specs.script.Segments.{at_next_event, passes_late_timer, next_segment}
use Rattle.domain_run.specs.declared.task.Task.{Task}
use Rattle.domain_run.specs.declared.task.Condition.{Condition}
use Rattle.domain_run.specs.declared.task.Condition.TheVariants.{Ready, Throttled, Blocked, Leaving}
use Rattle.domain_run.specs.declared.happened.Happened.{Happened}
use Rattle.domain_run.specs.declared.happened.What.TheVariants.{JobEnds, NextReleased, Spent}
use Rattle.domain_run.specs.Conditions.{is_throttled}
use Rattle.domain_run.specs.Parts.{running_on, went_on, goes_on, ran}
use Rattle.domain_run.specs.Happened.{happened_to, due, job_due, logged_by_segment, logged_by_budget, logged_by_run, is_first}
use Rattle.run_figures.specs.declared.job.Job.{Job}
use Rattle.run_figures.specs.Jobs.{new_job}
use Rattle.deadline_promise.specs.KeptBudget.{work_from}
use Rattle.deadline_promise.proofs.Kept.{IsShare, IsPaced}
use Rattle.deadline_promise.proofs.Asking.{GivenIn, asked}
use Rattle.deadline_promise.proofs.Fitting.{something_left}
use Rattle.deadline_promise.proofs.Renewing.{zero_left}
use Rattle.deadline_promise.proofs.Parts.{less_left, paid}
use Rattle.deadline_promise.proofs.Jobs.{over_in, open_after}
use Rattle.deadline_promise.proofs.OnTime.{under_way, Fits, Runs, Keeps, keeps_on, OnTime, AreOnTime}
use Rattle.deadline_promise.proofs.Waking.{new_fits}
use Rattle.limits.specs.Limits.{unit}

-- a job that ended by its deadline
pub record IsDone (period : ℕ) (job : Job) : Type 0 where
  pub due : job.deadline ≡ job.release + period
  pub end : ℕ
  pub ended : job.ended ≡ Some end
  pub by : end ≤ job.deadline

abbrev pub IsBefore : Happened → Happened → Type 0
IsBefore a b = is_first a b ≡ true

-- the jobs that are over by that were in time, it is logged in its order, and the tasks are on time
pub record Ends (time period : ℕ) (o : Option Job) (logged : List Happened) (after : List Task) : Type 0 where
  pub rising : AllPairs IsBefore logged
  pub over : All (IsDone period) (over_in o logged)
  pub tasks : AreOnTime time after (open_after o logged)

-- ---- lists of what is logged
pub no_pairs : AllPairs IsBefore []
no_pairs i j d less within = absurd (omega (arith, within))

one_pair : (h : Happened) → AllPairs IsBefore (h ∷ [])
one_pair h i j d less within = absurd (omega (arith, less, within))

three_pairs : (a b c : Happened) → IsBefore a b → IsBefore a c → IsBefore b c → AllPairs IsBefore (a ∷ b ∷ c ∷ [])
three_pairs a b c ab ac bc zero (suc zero) d less within = ab
three_pairs a b c ab ac bc zero (suc (suc zero)) d less within = ac
three_pairs a b c ab ac bc (suc zero) (suc (suc zero)) d less within = bc
three_pairs a b c ab ac bc zero zero d less within = absurd (omega (arith, less))
three_pairs a b c ab ac bc (suc zero) zero d less within = absurd (omega (arith, less))
three_pairs a b c ab ac bc (suc zero) (suc zero) d less within = absurd (omega (arith, less))
three_pairs a b c ab ac bc (suc (suc i)) zero d less within = absurd (omega (arith, less))
three_pairs a b c ab ac bc (suc (suc i)) (suc zero) d less within = absurd (omega (arith, less))
three_pairs a b c ab ac bc (suc (suc i)) (suc (suc zero)) d less within = absurd (omega (arith, less))
three_pairs a b c ab ac bc i (suc (suc (suc j))) d less within = absurd (omega (arith, within))

-- the job that ends
job_done : (time release period throttled : ℕ) (o : Option Job) (h : Happened) → h.time ≡ time → h.what ≡ JobEnds → o ≡ Some (under_way release period throttled) → time ≤ release + period → All (IsDone period) (over_in o (h ∷ []))
job_done time release period throttled o h at is under by =
    let done : Job = record (under_way release period throttled) { ended = Some time } in
    let e : over_in o (h ∷ []) ≡ done ∷ [] = λ i. over_in (under i) (record h { time = at i; what = is i } ∷ []) in
    subst (All (IsDone period)) (sym e) (All-cons (IsDone period) done [] (record { due = refl; end = time; ended = refl; by = by }) (All-nil (IsDone period)))

-- ---- with work left
lifted_left : (left : ℤ) → 0 < above_zero left → int_le left (pos 0) ≡ false
lifted_left (pos n) some = something_left (pos n) (omega (arith, ints, some))
lifted_left (negsuc n) some = absurd (omega (arith, some))

spent_left : (left : ℤ) → left ≡ pos 0 → int_le left (pos 0) ≡ true
spent_left left e = ap (λ x. int_le x (pos 0)) e

enough_left : (c : CursorView) (n : ℕ) (left : ℤ) → 0 < n → Fits c n (above_zero left) → int_le left (pos 0) ≡ false
enough_left c n left some fits =
    let least : 1 ≤ n + work_from c.script c.place 0 = omega (arith, some) in
    let one : 1 * unit ≤ (n + work_from c.script c.place 0) * unit = mul-le-mul_right unit least in
    lifted_left left (omega (arith, one, fits 0))

-- it stays ready
runs_on : (time : ℕ) (o : Option Job) (t : Task) → Keeps t.params t.cursor → Runs time t.params t.server t.work t.cursor o → Ends time t.params.period o (logged_by_budget time (running_on t)) (running_on t ∷ [])
runs_on time o t keeps runs =
    subst (λ b. Ends time t.params.period o (logged_by_budget time (record t { condition = cond b Throttled Ready })) (record t { condition = cond b Throttled Ready } ∷ []))
    (sym (enough_left t.cursor t.work t.server.left runs.some runs.fits))
    (record { rising = no_pairs; over = All-nil (IsDone t.params.period); tasks = (keeps, runs) })

-- ---- at the end of its work, by what its script gives
module _ (time : ℕ) (o : Option Job) (t : Task) (share : IsShare t.params) (keeps : Keeps t.params t.cursor) (release throttled : ℕ) (past : release ≤ time) (by : time ≤ release + t.params.period)
    (at : t.server.deadline ≡ Some (release + t.params.period)) (under : o ≡ Some (under_way release t.params.period throttled)) where
  due_by_then : (v : ℕ) → release + t.params.period ≤ v → IfSome t.server.deadline (λ d. d ≤ v)
  due_by_then v ahead = subst (λ x. IfSome x (λ d. d ≤ v)) (sym at) ahead

  -- its job ends
  stops : (s : Condition) (u : Task) → u.condition ≡ s → is_throttled s ≡ false → OnTime time u None → Ends time t.params.period o ((happened_to time t JobEnds ∷ []) ++ logged_by_budget time u) (u ∷ [])
  stops s u is awake on =
      let logged : logged_by_budget time u ≡ [] = ap (λ b. cond b (happened_to time u (Spent (due u)) ∷ []) []) (ap is_throttled is ∙ awake) in
      subst (λ hs. Ends time t.params.period o ((happened_to time t JobEnds ∷ []) ++ hs) (u ∷ [])) (sym logged)
      (record {
        rising = one_pair (happened_to time t JobEnds);
        over = job_done time release t.params.period throttled o (happened_to time t JobEnds) refl refl under by;
        tasks = on;
      })

  goes_soon : (s : Segment) (c : CursorView) → c.script ≡ t.cursor.script → GivenIn t.params.period t.cursor release time c s
      → ((count : ℕ) → work_from t.cursor.script t.cursor.place count * unit ≤ above_zero t.server.left)
      → Ends time t.params.period o (logged_by_segment time t false s ++ logged_by_budget time (went_on time s (record t { cursor = c }))) (went_on time s (record t { cursor = c }) ∷ [])
  goes_soon (RunFor n) c same g fits =
      runs_on time o (record t { cursor = c; work = n }) (keeps_on t.params t.cursor c same keeps)
      (record {
        release = release;
        past = past;
        due = at;
        throttled = throttled;
        job = under;
        some = g.0;
        fits = λ count. subst (λ k. k * unit ≤ above_zero t.server.left) (sym (g.1 count)) (fits (suc count));
        refers = g.2;
      })
  goes_soon (Until v) c same g fits =
      stops (Blocked v) (went_on time (Until v) (record t { cursor = c })) refl refl
      (keeps_on t.params t.cursor c same keeps, record { none = refl; ahead = omega (arith, g.1); due = due_by_then v g.0; refers = g.2 })
  goes_soon WaitFor c same g fits = absurd g
  goes_soon End c same g fits =
      stops Leaving (went_on time End (record t { cursor = c })) refl refl (keeps_on t.params t.cursor c same keeps, refl)

  -- it ended at its deadline, when its timer is over
  module _ (full : release + t.params.period ≤ time) (none : t.server.left ≡ pos 0) where
    goes_late : (s : Segment) (c : CursorView) → c.script ≡ t.cursor.script → GivenIn t.params.period (at_next_event t.cursor time) time time c s
        → Ends time t.params.period o (logged_by_segment time t true s ++ logged_by_budget time (went_on time s (record t { cursor = c }))) (went_on time s (record t { cursor = c }) ∷ [])
    goes_late (RunFor n) c same g =
        let u : Task = record t { cursor = c; work = n } in
        let ended = happened_to time t JobEnds in
        let next = happened_to time t (NextReleased (job_due time t)) in
        let p = t.params in
        subst (λ b. Ends time p.period o ((ended ∷ next ∷ []) ++ logged_by_budget time (record u { condition = cond b Throttled Ready })) (record u { condition = cond b Throttled Ready } ∷ []))
        (sym (spent_left t.server.left none))
        (record {
          rising = three_pairs ended next (happened_to time u (Spent (due u))) refl refl refl;
          over = job_done time release p.period throttled o ended refl refl under by;
          tasks = (
            keeps_on p t.cursor c same keeps,
            record {
              due = at ∙ ap Some (omega (arith, full, by));
              throttled = 1;
              job = ap (λ k. Some (record (new_job time (time + k)) { throttled = 1 })) share.whole_period;
              some = g.0;
              fits = new_fits p (at_next_event t.cursor time) c n (keeps_on p t.cursor (at_next_event t.cursor time) refl keeps) g.1;
              refers = g.2;
            },
          );
        })
    goes_late (Until v) c same g =
        stops (Blocked v) (went_on time (Until v) (record t { cursor = c })) refl refl
        (keeps_on t.params t.cursor c same keeps, record { none = refl; ahead = omega (arith, g.1); due = due_by_then v (omega (arith, by, g.1, full)); refers = g.2 })
    goes_late WaitFor c same g = absurd g
    goes_late End c same g =
        stops Leaving (went_on time End (record t { cursor = c })) refl refl (keeps_on t.params t.cursor c same keeps, refl)

-- ---- PART 6 of a task that runs
abbrev charged_task : Task → Task
charged_task t = record t { server = charged unit 1 t.server; work = t.work - 1 }

-- it has work left
works_on : (time : ℕ) (o : Option Job) (t : Task) → Keeps t.params t.cursor → Runs time t.params t.server t.work t.cursor o → less_left t.params t.server.left → 0 < t.work - 1
    → Ends (time + 1) t.params.period o (logged_by_budget (time + 1) (running_on (charged_task t))) (running_on (charged_task t) ∷ [])
works_on time o t keeps runs less more =
    runs_on (time + 1) o (charged_task t) keeps
    (record {
      release = runs.release;
      past = omega (arith, runs.past);
      due = runs.due;
      throttled = runs.throttled;
      job = runs.job;
      some = more;
      fits = λ count. omega (arith, runs.fits count, less.1, more);
      refers = runs.refers;
    })

-- its work ends: by its deadline, and at its deadline nothing is left
module _ (time : ℕ) (o : Option Job) (t : Task) (paced : IsPaced t) (keeps : Keeps t.params t.cursor) (runs : Runs time t.params t.server t.work t.cursor o) (less : less_left t.params t.server.left) (last : t.work - 1 ≡ 0)
    (room : above_zero t.server.left ≤ unit * (runs.release + t.params.period - time)) where
  ends_by : time + 1 ≤ runs.release + t.params.period
  ends_by = omega (arith, room, less.1)

  rest_fits : (count : ℕ) → work_from t.cursor.script t.cursor.place count * unit ≤ above_zero (charged_task t).server.left
  rest_fits count = omega (arith, runs.fits count, runs.some, last, less.1)

  none_left : runs.release + t.params.period ≤ time + 1 → (charged_task t).server.left ≡ pos 0
  none_left full = zero_left t.params (charged_task t).server.left less.0 (omega (arith, room, full, ends_by, less.1))

  work_ends : Ends (time + 1) t.params.period o (logged_by_segment (time + 1) (charged_task t) (passes_late_timer t.cursor (time + 1)) (next_segment t.cursor (time + 1)).segment
      ++ logged_by_budget (time + 1) (goes_on (time + 1) (charged_task t) (next_segment t.cursor (time + 1)))) (goes_on (time + 1) (charged_task t) (next_segment t.cursor (time + 1)) ∷ [])
  work_ends =
      let e = time + 1 in
      let u = charged_task t in
      let p = t.params in
      let a = next_segment t.cursor e in
      let past : runs.release ≤ e = omega (arith, runs.past) in
      let ask = asked p.runtime p.period t.cursor runs.release e keeps.budgets keeps.script paced.share.some runs.refers past in
      elim (passes_late_timer t.cursor e) as (λ b. passes_late_timer t.cursor e ≡ b → Ends e p.period o (logged_by_segment e u b a.segment ++ logged_by_budget e (goes_on e u a)) (goes_on e u a ∷ [])) [
        | true ↦ λ y.
            let g = ask.late y in
            goes_late e o u paced.share keeps runs.release runs.throttled past ends_by runs.due runs.job g.0 (none_left g.0) a.segment a.cursor g.1.script g.1.is
        | false ↦ λ y.
            let g = ask.soon y in
            goes_soon e o u paced.share keeps runs.release runs.throttled past ends_by runs.due runs.job a.segment a.cursor g.script g.is rest_fits
      ] refl

pub ends : (time : ℕ) (o : Option Job) (t : Task) → IsPaced t → 0 < above_zero t.server.left → Keeps t.params t.cursor → Runs time t.params t.server t.work t.cursor o
    → ((x : ℕ) → t.server.deadline ≡ Some x → above_zero t.server.left ≤ unit * (x - time)) → Ends (time + 1) t.params.period o (logged_by_run time unit t) (ran time unit t ∷ [])
ends time o t paced some keeps runs room =
    let e = time + 1 in
    let u = charged_task t in
    let a = next_segment t.cursor e in
    let less = paid t.params t.server.left paced.whole some in
    elim (eqb u.work 0) as (λ b. eqb u.work 0 ≡ b → Ends e t.params.period o (cond b (logged_by_segment e u (passes_late_timer t.cursor e) a.segment) [] ++ logged_by_budget e (cond b (goes_on e u a) (running_on u))) (cond b (goes_on e u a) (running_on u) ∷ [])) [
      | true ↦ λ y. work_ends time o t paced keeps runs less (eqb-true u.work 0 y) (room (runs.release + t.params.period) runs.due)
      | false ↦ λ y. works_on time o t keeps runs less (some_work u.work y)
    ] refl
  where
    some_work : (n : ℕ) → eqb n 0 ≡ false → 0 < n
    some_work zero y = absurd (false≢true (sym y))
    some_work (suc n) y = omega arith
