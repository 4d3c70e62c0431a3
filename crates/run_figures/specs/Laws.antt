-- Laws of the figures.
use Rattle.std.specs.Prelude.{ℕ, ◌≡◌, ◌<◌, ◌≤◌, ◌^◌, ◌+◌, Bool, true, false, if◌then◌else◌, List, length, All, Any, IfSome, is_some, sum_by, count_by}
use Rattle.domain_run.specs.declared.happened.What.{What}
use Rattle.domain_run.specs.declared.happened.What.TheVariants.{JobEnds, NextReleased, Spent, Cut, Replenished, Released, WokenSpent}
use Rattle.domain_run.specs.declared.happened.Happened.{Happened}
use Rattle.domain_run.specs.Switch.{Switch}
use Rattle.domain_run.specs.declared.call.Call.{Call}
use Rattle.domain_run.specs.Domain.{empty_domain}
use Rattle.domain_run.specs.Happened.{logged_by_calls}
use Rattle.run_figures.specs.declared.run.Admitted.{Admitted}
use Rattle.run_figures.specs.declared.figures.TaskFigures.{TaskFigures}
use Rattle.run_figures.specs.declared.figures.CpuFigures.{CpuFigures}
use Rattle.run_figures.specs.TaskJobsView.{TaskJobsView}
use Rattle.run_figures.specs.Jobs.{of_task}
use Rattle.run_figures.specs.Balance.{replenished_of, is_left_throttled}

-- who comes by a switch is among the tasks
abbrev pub AreKnown : List Admitted → List Switch → Type 0
AreKnown tasks switches = All (λ s. IfSome s.next (λ n. Any (λ t. t.number ≡ n) tasks)) switches

-- the CPU time of the tasks sums to that of the CPUs
abbrev pub IsShared : List TaskFigures → List CpuFigures → Type 0
IsShared tasks cpus = sum_by (λ t. t.cpu_us) tasks ≡ sum_by (λ c. c.busy_us) cpus

-- times that are short enough for shares of them in hundredths of a per cent
abbrev pub AreShort : List TaskFigures → List CpuFigures → Type 0
AreShort tasks cpus = All (λ t. t.cpu_us < 2 ^ 108) tasks × All (λ c. c.busy_us < 2 ^ 108) cpus

-- what releases a job, and what ends one
abbrev pub releases : What → Bool
releases JobEnds = false
releases (NextReleased deadline) = true
releases (Spent deadline) = false
releases Cut = false
releases (Replenished deadline) = false
releases (Released deadline) = true
releases (WokenSpent deadline) = false

abbrev pub ends : What → Bool
ends JobEnds = true
ends (NextReleased deadline) = false
ends (Spent deadline) = false
ends Cut = false
ends (Replenished deadline) = false
ends (Released deadline) = false
ends (WokenSpent deadline) = false

-- each job of a task is one release, and each that ended is one end
pub record AreReleased (happened : List Happened) (t : TaskJobsView) : Type 0 where
  pub released : length t.jobs ≡ count_by (λ h. releases h.what) (of_task t.number happened)
  pub ended : count_by (λ j. is_some j.ended) t.jobs ≤ count_by (λ h. ends h.what)
      (of_task t.number happened)

-- what a domain logs of some calls, from its opening on
abbrev pub IsLoggedOfCalls : List Happened → Type 0
IsLoggedOfCalls happened = (cpus : ℕ) × (limit : ℕ) × (calls : List Call)
    × (happened ≡ logged_by_calls (empty_domain cpus limit) calls)

-- a task is throttled as often as it is replenished, or once more: it is throttled at the end, or
-- was cut while it was
abbrev pub ThrottlesBalance : List Happened → TaskFigures → Type 0
ThrottlesBalance happened t = t.throttled ≡ replenished_of (of_task t.number happened)
    + (if is_left_throttled false (of_task t.number happened) then 1 else 0)
