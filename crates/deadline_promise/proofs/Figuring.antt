-- No job of a task whose script keeps its budget is late in the figures.
use Rattle.std.proofs.Common.{◌≡◌, ℕ, ◌+◌, ◌≤◌, Bool, true, false, cond, not, ◌&&◌, eqb, Option, Some, None, List, [], ◌∷◌, get_or, refl, sym, ap, subst, ◌∙◌, arith, inr}
use Rattle.std.specs.Prelude.{All, IfSome, count_by}
use Rattle.std.specs.Option.{option_to_list}
use Rattle.std.proofs.lemmas.Bool.{le-ltb}
use Rattle.std.proofs.lemmas.List.Elements.{All-nil, All-cons, All-append, All-head, All-tail, All-filter, All-weaker}
use Rattle.std.proofs.lemmas.List.Sums.{sum_by-cons}
use Rattle.cbs_rules.specs.declared.server.Server.{Server}
use Rattle.domain_run.specs.declared.task.Task.{Task}
use Rattle.domain_run.specs.declared.task.Condition.{Condition}
use Rattle.domain_run.specs.declared.task.Condition.TheVariants.{Ready, Throttled, Blocked, Waiting, Leaving}
use Rattle.domain_run.specs.Conditions.{is_ready}
use Rattle.domain_run.specs.Domain.{Domain}
use Rattle.domain_run.specs.Tick.{ticks}
use Rattle.domain_run.specs.Happened.{logged_by_ticks}
use Rattle.domain_run.specs.Run.{run_of}
use Rattle.run_figures.specs.declared.job.Job.{Job}
use Rattle.run_figures.specs.Jobs.{of_task, jobs_of}
use Rattle.run_figures.specs.Figures.{is_late_at, is_late}
use Rattle.deadline_promise.specs.KeptBudget.{KeepsBudget}
use Rattle.deadline_promise.specs.Promise.{IsInTime, logged_of_run, IsNeverLate}
use Rattle.deadline_promise.proofs.Kept.{IsFit, IsCalm}
use Rattle.deadline_promise.proofs.Opening.{IsBegun, run_opened, run_logged}
use Rattle.deadline_promise.proofs.Ticking.{HasRoom, task_room, ticks_calm}
use Rattle.deadline_promise.proofs.Starting.{run_calm, run_time}
use Rattle.deadline_promise.proofs.Jobs.{over_in, open_after, jobs_are}
use Rattle.deadline_promise.proofs.OnTime.{under_way, OnTimeIn, OnTime, AreOnTime}
use Rattle.deadline_promise.proofs.Ending.{IsDone}
use Rattle.deadline_promise.proofs.Own.{own, own_one}
use Rattle.deadline_promise.proofs.Never.{HasPeriod, ticks_on_time}

-- ---- the job under way at the end
done_in_time : (time period : ℕ) (job : Job) → IsDone period job → IsInTime time period job
done_in_time time period job h = record {
  due = h.due;
  ended = subst (λ e. IfSome e (λ x. x ≤ job.deadline)) (sym h.ended) h.by;
  under_way = λ none. absurd (no_end job.ended h.end h.ended none);
}
  where
    no_end : (o : Option ℕ) (e : ℕ) → o ≡ Some e → o ≡ None → ⊥
    no_end None e some none = absurd cc
    no_end (Some x) e some none = absurd cc

one_in_time : (time period release throttled : ℕ) (o : Option Job) → o ≡ Some (under_way release period throttled) → time ≤ release + period → All (IsInTime time period) (option_to_list o)
one_in_time time period release throttled o is ahead =
    let job = under_way release period throttled in
    subst (λ q. All (IsInTime time period) (option_to_list q)) (sym is)
    (All-cons (IsInTime time period) job [] (record { due = refl; ended = tt; under_way = λ none. ahead }) (All-nil (IsInTime time period)))

none_in_time : (time period : ℕ) (o : Option Job) → o ≡ None → All (IsInTime time period) (option_to_list o)
none_in_time time period o is = subst (λ q. All (IsInTime time period) (option_to_list q)) (sym is) (All-nil (IsInTime time period))

last_by : (time : ℕ) (o : Option Job) (t : Task) (c : Condition) → t.condition ≡ c → IsFit t → HasRoom time t → OnTimeIn time t.params t.server t.work t.cursor o c → All (IsInTime time t.params.period) (option_to_list o)
last_by time o t Ready is fit room runs =
    let ready = ap is_ready is in
    one_in_time time t.params.period runs.release runs.throttled o runs.job
    (omega (arith, fit.lifted ready, room (runs.release + t.params.period) ready runs.due))
last_by time o t Throttled is fit room holds = one_in_time time t.params.period time holds.throttled o holds.job (omega arith)
last_by time o t (Blocked u) is fit room rests = none_in_time time t.params.period o rests.none
last_by time o t Waiting is fit room h = absurd h
last_by time o t Leaving is fit room none = none_in_time time t.params.period o none

last_in_time : (time period : ℕ) (o : Option Job) (ts : List Task) → All IsFit ts → All (HasRoom time) ts → All (HasPeriod period) ts → AreOnTime time ts o → All (IsInTime time period) (option_to_list o)
last_in_time time period o [] fit room same on = none_in_time time period o on
last_in_time time period o (t ∷ []) fit room same on =
    subst (λ k. All (IsInTime time k) (option_to_list o)) (All-head (HasPeriod period) t [] same)
    (last_by time o t t.condition refl (All-head IsFit t [] fit) (All-head (HasRoom time) t [] room) on.1)
last_in_time time period o (t ∷ u ∷ ts) fit room same on = absurd on

-- ---- all jobs
jobs_in_time : (k n period : ℕ) (d : Domain) → IsCalm d → AreOnTime d.time (own n d.tasks) None → All (HasPeriod period) (own n d.tasks) → All (IsInTime (ticks k d).time period) (jobs_of (logged_by_ticks k d) n)
jobs_in_time k n period d calm on periods =
    let e = ticks k d in
    let after = ticks_calm k d calm in
    let stays = ticks_on_time k n period d calm on periods in
    let hs = of_task n (logged_by_ticks k d) in
    let o = open_after None hs in
    let is_own : Task → Bool = λ t. eqb t.number n in
    subst (All (IsInTime e.time period)) (sym (jobs_are None hs))
    (All-append (IsInTime e.time period) (over_in None hs) (option_to_list o)
    (All-weaker (IsDone period) (IsInTime e.time period) (done_in_time e.time period) (over_in None hs) stays.over)
    (last_in_time e.time period o (own n e.tasks) (All-filter is_own IsFit e.tasks after.fit) (All-filter is_own (HasRoom e.time) e.tasks (task_room e after)) stays.periods stays.tasks))

-- ---- the figures
not_late : (time : ℕ) (job : Job) (end : Option ℕ) → job.ended ≡ end → IfSome end (λ e. e ≤ job.deadline) → (end ≡ None → time ≤ job.deadline) → is_late_at time job end ≡ false
not_late time job None is ended ahead = ap (λ b. not job.cut && b) (le-ltb job.deadline time (ahead refl)) ∙ and_false (not job.cut)
  where
    and_false : (b : Bool) → (b && false) ≡ false
    and_false true = refl
    and_false false = refl
not_late time job (Some e) is ended ahead = le-ltb job.deadline e ended

none_late : (time period : ℕ) (jobs : List Job) → All (IsInTime time period) jobs → count_by (is_late time) jobs ≡ 0
none_late time period [] all = refl
none_late time period (job ∷ jobs) all =
    let h = All-head (IsInTime time period) job jobs all in
    let here : is_late time job ≡ false = not_late time job job.ended refl h.ended h.under_way in
    let rest = none_late time period jobs (All-tail (IsInTime time period) job jobs all) in
    omega (arith, sum_by-cons (λ (j : Job). cond (is_late time j) 1 0) job jobs, ap {B = ℕ} (λ b. cond b 1 0) here, rest)

-- ---- at the beginning
begun_on_time : (t : Task) → IsBegun t → KeepsBudget t.params.runtime t.params.period t.cursor.script → OnTime 0 t None
begun_on_time t is keeps = (
  record { budgets = keeps; script = is.script },
  subst (OnTimeIn 0 t.params t.server t.work t.cursor None) (sym is.blocked)
      (record { none = refl; ahead = omega arith; due = subst (λ (s : Server). IfSome s.deadline (λ d. d ≤ is.start)) (sym is.bare) tt; refers = inr is.reference }),
)

pub never_late : IsNeverLate
never_late cpus limit n calls may k z within keeps =
    let d = run_of cpus limit calls in
    let t = get_or d.tasks k z in
    let opened = run_opened cpus limit calls may.admissions in
    let alone = own_one d.tasks k z opened.numbered within in
    let on : AreOnTime d.time (own t.number d.tasks) None =
    subst (λ ts. AreOnTime d.time ts None) (sym alone) (subst (λ m. OnTime m t None) (sym opened.early) (begun_on_time t (opened.begun k z within) keeps)) in
    let periods : All (HasPeriod t.params.period) (own t.number d.tasks) =
    subst (All (HasPeriod t.params.period)) (sym alone) (All-cons (HasPeriod t.params.period) t [] refl (All-nil (HasPeriod t.params.period))) in
    let jobs : All (IsInTime n t.params.period) (jobs_of (logged_of_run cpus limit calls n) t.number) =
    subst (λ hs. All (IsInTime n t.params.period) (jobs_of hs t.number)) (sym (run_logged cpus limit n calls may.admissions))
    (subst (λ m. All (IsInTime m t.params.period) (jobs_of (logged_by_ticks n d) t.number)) (run_time cpus limit n calls may)
    (jobs_in_time n t.number t.params.period d (run_calm cpus limit calls may) on periods)) in
    record {
      jobs = jobs;
      figures = λ run task time logged number.
          (λ i. count_by (is_late (time i)) (jobs_of (logged i) (number i))) ∙ none_late n t.params.period (jobs_of (logged_of_run cpus limit calls n) t.number) jobs;
    }
