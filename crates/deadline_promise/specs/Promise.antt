-- THE PROMISE: on one CPU a task that keeps its budget is never late, whatever the others do (own;
-- the isolation of constant bandwidth servers, under earliest deadline first).
use Rattle.std.specs.Prelude.{ℕ, ◌+◌, ◌-◌, ◌*◌, ◌≤◌, ◌≡◌, false, ◌&&◌, if◌then◌else◌, List, [], ◌∷◌, ◌++◌, All, length, sum_by, None, IfSome}
use Rattle.attr_check.specs.ParamsView.{IsOrdered}
use Rattle.cbs_rules.specs.Budget.{above_zero}
use Rattle.task_script.specs.script.ScriptView.{IsScript}
use Rattle.domain_run.specs.declared.task.Task.{Task}
use Rattle.domain_run.specs.declared.call.Call.{Call}
use Rattle.domain_run.specs.declared.call.Call.TheVariants.{Admit, Advance}
use Rattle.domain_run.specs.declared.happened.Happened.{Happened}
use Rattle.domain_run.specs.Conditions.{is_ready, has_come}
use Rattle.domain_run.specs.Domain.{empty_domain}
use Rattle.domain_run.specs.Tick.{ticks}
use Rattle.domain_run.specs.Run.{run_of}
use Rattle.domain_run.specs.Happened.{logged_by_calls}
use Rattle.run_figures.specs.declared.job.Job.{Job}
use Rattle.run_figures.specs.declared.run.Admitted.{Admitted}
use Rattle.run_figures.specs.Jobs.{jobs_of}
use Rattle.run_figures.specs.Runs.{RunView}
use Rattle.run_figures.specs.Figures.{figures_of}
use Rattle.deadline_promise.specs.Reach.{IsUncrowded}
use Rattle.deadline_promise.specs.KeptBudget.{KeepsBudget}
use Rattle.limits.specs.Limits.{unit}

-- a call that asks for the admission of a task, with parameters and a script within their limits
abbrev pub IsSoundAdmission : Call → Type 0
IsSoundAdmission (Admit number name params delay script) = IsOrdered params × IsScript script
IsSoundAdmission _ = ⊥

-- THE PREMISES. One CPU; some admissions, of which some may be refused; each admitted task has its
-- deadline at the end of its period, and none reclaims; and the limit leaves one part of 2^20 for
-- each of them, since a bandwidth is rounded down
pub record MayPromise (cpus limit : ℕ) (calls : List Call) : Type 0 where
  pub one : cpus ≡ 1
  pub admissions : All IsSoundAdmission calls
  pub whole_periods : All (λ t. t.params.deadline ≡ t.params.period) (run_of cpus limit calls).tasks
  pub plain : All (λ t. t.params.reclaim ≡ false) (run_of cpus limit calls).tasks
  pub fits : limit + length (run_of cpus limit calls).tasks ≤ unit

-- NEVER CROWDED, after any number of ticks
abbrev pub IsNeverCrowded : Type 0
IsNeverCrowded =
    (cpus limit n : ℕ) (calls : List Call) → MayPromise cpus limit calls
    → IsUncrowded (ticks n (run_of cpus limit calls))

-- what is left of the budget of a ready task, if its deadline is x or earlier
abbrev pub due_left : ℕ → Task → ℕ
due_left x t =
    if is_ready t.condition && has_come x t.server.deadline then above_zero t.server.left else 0

-- ROOM: after n ticks, what all ready tasks with a deadline of x or earlier have left fits between
-- n and x
abbrev pub AlwaysHasRoom : Type 0
AlwaysHasRoom =
    (cpus limit n x : ℕ) (calls : List Call) → MayPromise cpus limit calls → n ≤ x
    → sum_by (due_left x) (ticks n (run_of cpus limit calls)).tasks ≤ unit * (x - n)

-- a job of a run that ends at a time is due a period after its release. It ended by then, or that
-- is still to come
pub record IsInTime (time period : ℕ) (job : Job) : Type 0 where
  pub due : job.deadline ≡ job.release + period
  pub ended : IfSome job.ended (λ e. e ≤ job.deadline)
  pub under_way : job.ended ≡ None → time ≤ job.deadline

-- what a run of these calls and n ticks logs
abbrev pub logged_of_run : ℕ → ℕ → List Call → ℕ → List Happened
logged_of_run cpus limit calls n = logged_by_calls (empty_domain cpus limit)
    (calls ++ Advance n ∷ [])

-- the figures of a task, of any run that has logged this and ends then
abbrev pub NoneLate : ℕ → ℕ → List Happened → Type 0
NoneLate time number logged =
    (run : RunView) (task : Admitted) → run.time ≡ time → run.happened ≡ logged
    → task.number ≡ number → (figures_of run task).late ≡ 0

-- NEVER LATE: after n ticks, all jobs of a task whose script keeps its budget are in time, and none
-- is late in its figures
pub record KeepsPromise (cpus limit : ℕ) (calls : List Call) (n : ℕ) (t : Task) : Type 0 where
  pub jobs : All (IsInTime n t.params.period) (jobs_of (logged_of_run cpus limit calls n) t.number)
  pub figures : NoneLate n t.number (logged_of_run cpus limit calls n)

abbrev pub IsNeverLate : Type 0
IsNeverLate =
    (cpus limit n : ℕ) (calls : List Call) → MayPromise cpus limit calls
    → All (λ t. KeepsBudget t.params.runtime t.params.period t.cursor.script
    → KeepsPromise cpus limit calls n t)
    (run_of cpus limit calls).tasks
