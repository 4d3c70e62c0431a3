-- The answer for a task: never late, or the first reason why that is not promised (own).
use Rattle.std.specs.Prelude.{ℕ, ◌+◌, ◌<◌, ◌≡◌, ◌==◌, Bool, true, false, nat_lt, if◌then◌else◌, List, All, length, find, Option, Some, None}
use Rattle.std.specs.List.{list_any}
use Rattle.attr_check.specs.ParamsView.{ParamsView}
use Rattle.domain_run.specs.declared.task.Task.{Task}
use Rattle.domain_run.specs.declared.call.Call.{Call}
use Rattle.domain_run.specs.Domain.{Domain}
use Rattle.domain_run.specs.Run.{run_of}
use Rattle.deadline_promise.specs.declared.demand.Demand.{Demand}
use Rattle.deadline_promise.specs.declared.answer.Promise.{Promise}
use Rattle.deadline_promise.specs.declared.answer.Promise.TheVariants.{NeverLate, Refused, SeveralCpus, Reclaiming, ShortDeadline, FullLimit, OverBudget, NearReleases, MixedWaits}
use Rattle.deadline_promise.specs.Demand.{IsDemand}
use Rattle.deadline_promise.specs.Promise.{IsSoundAdmission, KeepsPromise}
use Rattle.limits.specs.Limits.{unit}

-- a stretch of work is above the runtime; work without end is
abbrev pub is_over_budget : ℕ → Option ℕ → Bool
is_over_budget runtime None = true
is_over_budget runtime (Some w) = nat_lt runtime w

-- a timer or a sleep is below the period
abbrev pub releases_near : ℕ → Option ℕ → Bool
releases_near period None = false
releases_near period (Some g) = nat_lt g period

-- what its script says
abbrev pub promise_by_demand : ParamsView → Demand → Promise
promise_by_demand p demand =
    if is_over_budget p.runtime demand.work_max then OverBudget
    else (if releases_near p.period demand.gap_min then NearReleases
    else (if demand.alike then NeverLate else MixedWaits))

-- what its domain says comes first
abbrev pub promise_in : Domain → ParamsView → Demand → Promise
promise_in d p demand =
    if nat_lt 1 d.cpus then SeveralCpus
    else (if list_any (λ t. t.params.reclaim) d.tasks then Reclaiming
    else (if list_any (λ t. nat_lt t.params.deadline t.params.period) d.tasks then ShortDeadline
    else (if nat_lt unit (d.limit + length d.tasks) then FullLimit
    else promise_by_demand p demand)))

abbrev pub promise_if_listed : Domain → Demand → Option Task → Promise
promise_if_listed d demand None = Refused
promise_if_listed d demand (Some t) = promise_in d t.params demand

-- the answer for the task of a number, whose script asks for this
abbrev pub promise_to : Domain → ℕ → Demand → Promise
promise_to d number demand =
    promise_if_listed d demand (find (λ t. t.number == number) d.tasks)

-- A PROMISE IS KEPT: if the answer for an admitted task is that it is never late, then so it is
-- after any number of ticks
abbrev pub IsPromiseKept : Type 0
IsPromiseKept =
    (cpus limit n : ℕ) (calls : List Call) (demand : Demand) → 0 < cpus
    → All IsSoundAdmission calls
    → All (λ t. IsDemand t.cursor.script demand
    → promise_to (run_of cpus limit calls) t.number demand ≡ NeverLate
    → KeepsPromise cpus limit calls n t)
    (run_of cpus limit calls).tasks
