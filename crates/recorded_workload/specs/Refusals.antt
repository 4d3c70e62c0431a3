-- Why a recording has no workload: the first of these that holds, in this order (own).
use Rattle.std.specs.Prelude.{◌≡◌, ℕ, ◌+◌, ◌-◌, ◌≤◌, ◌<◌, ◌⊎◌, Bool, ◌&&◌, nat_le, nat_lt, if◌then◌else◌, List, [], ◌∷◌, length, Option, Some, None, IfSome}
use Rattle.std.specs.Option.{option_or}
use Rattle.recorded_jobs.specs.declared.moment.Moment.{Moment}
use Rattle.recorded_jobs.specs.declared.job.Release.{Release}
use Rattle.recorded_scripts.specs.Scripts.{first_release, are_short}
use Rattle.tasks_text.specs.declared.task.Task.{Task}
use Rattle.recorded_workload.specs.declared.shape.Shape.{Shape}
use Rattle.recorded_workload.specs.declared.fault.WorkloadFault.{WorkloadFault}
use Rattle.recorded_workload.specs.declared.fault.WorkloadFault.TheVariants.{NoTask, ManyJobs, LongSleep, ManyCpus, LongRecording, Memory}
use Rattle.recorded_workload.specs.Workload.{jobs_of_all, earliest, time_zero, workload_ticks, workload_cpus}
use Rattle.limits.specs.Limits as limits
use Rattle.limits.specs.Limits.{unit, max_script_number}

-- a domain has 1 to 64 CPUs, and a limit of 1 % to all of a CPU
pub record IsWorkloadShape (shape : Shape) : Type 0 where
  pub some_cpus : IfSome shape.cpus (λ cpus. 0 < cpus)
  pub least_limit : limits.least_limit ≤ shape.limit
  pub most_limit : shape.limit ≤ unit

-- no task has a job
abbrev pub none_found : Option ℕ → Option WorkloadFault
none_found None = Some NoTask
none_found (Some start) = None

-- the first task of more than 2048 jobs: the others have no room in a script
unfoldable pub many_from : ℕ → List (List Release) → Option WorkloadFault
many_from n [] = None
many_from n (js ∷ jobs) =
    if nat_lt 2048 (length js) then Some (ManyJobs n (length js)) else many_from (n + 1) jobs

-- a task starts within 10^9 us, and neither works nor waits longer
abbrev pub fits_script : ℕ → List Release → Bool
fits_script start js = nat_le (first_release js - start) max_script_number && are_short js

-- the first task that does not
unfoldable pub long_from : ℕ → ℕ → List (List Release) → Option WorkloadFault
long_from start n [] = None
long_from start n (js ∷ jobs) =
    if fits_script start js then long_from start (n + 1) jobs else Some (LongSleep n)

abbrev pub cpus_refused : ℕ → Option WorkloadFault
cpus_refused cpus = if nat_lt 64 cpus then Some (ManyCpus cpus) else None

-- 65000 advances at most, which is 45 days
abbrev pub ticks_refused : ℕ → Option WorkloadFault
ticks_refused ticks = if nat_lt 3900000000000 ticks then Some LongRecording else None

abbrev pub refused_by : List (List Release) → ℕ → ℕ → Option WorkloadFault
refused_by jobs cpus ticks =
    option_or (none_found (earliest jobs))
    (option_or (many_from 0 jobs)
    (option_or (long_from (time_zero jobs) 0 jobs)
    (option_or (cpus_refused cpus) (ticks_refused ticks))))

abbrev pub workload_refused : List Moment → List Task → Shape → Option WorkloadFault
workload_refused moments tasks shape =
    refused_by (jobs_of_all moments tasks) (workload_cpus moments shape)
    (workload_ticks moments (jobs_of_all moments tasks))

-- memory may run out at any
abbrev pub IsWorkloadFault : List Moment → List Task → Shape → WorkloadFault → Type 0
IsWorkloadFault moments tasks shape fault =
    (fault ≡ Memory) ⊎ (workload_refused moments tasks shape ≡ Some fault)

-- the number of a task that a fault says, if it says one, is that of one of so many tasks
abbrev pub NamesTask : ℕ → WorkloadFault → Type 0
NamesTask count NoTask = Unit {0}
NamesTask count (ManyJobs task jobs) = task < count
NamesTask count (LongSleep task) = task < count
NamesTask count (ManyCpus cpus) = Unit {0}
NamesTask count LongRecording = Unit {0}
NamesTask count Memory = Unit {0}
