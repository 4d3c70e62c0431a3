-- The workload of a recording (own): one section of a calls text, which admits the recorded tasks
-- with the scripts of their jobs, and goes on to the end of the recording.
use Rattle.std.specs.Prelude.{ℕ, zero, suc, ◌+◌, ◌-◌, ◌/◌, ◌%◌, ◌==◌, if◌then◌else◌, List, [], ◌∷◌, ◌++◌, min, max, fold, Option, Some, None, unwrap_or}
use Rattle.std.specs.Option.{option_map_or}
use Rattle.domain_run.specs.declared.call.Call.{Call}
use Rattle.domain_run.specs.declared.call.Call.TheVariants.{Admit, Advance}
use Rattle.calls_text.specs.declared.section.Entry.{Entry}
use Rattle.calls_text.specs.SectionView.{SectionView}
use Rattle.recorded_jobs.specs.declared.moment.Moment.{Moment}
use Rattle.recorded_jobs.specs.declared.job.Release.{Release}
use Rattle.recorded_jobs.specs.Releases.{time_at_end, jobs_of_task}
use Rattle.recorded_jobs.specs.CpusUsed.{cpus_used}
use Rattle.recorded_scripts.specs.Scripts.{first_release, script_of_jobs}
use Rattle.tasks_text.specs.declared.task.Task.{Task}
use Rattle.recorded_workload.specs.declared.shape.Shape.{Shape}
use Rattle.limits.specs.Limits.{max_advance}

-- ---- time 0 and the end

-- the jobs of these tasks, which have the numbers from n on
unfoldable pub all_jobs_from : List Moment → ℕ → List Task → List (List Release)
all_jobs_from moments n [] = []
all_jobs_from moments n (t ∷ tasks) = jobs_of_task moments n ∷ all_jobs_from moments (n + 1) tasks

abbrev pub jobs_of_all : List Moment → List Task → List (List Release)
jobs_of_all moments tasks = all_jobs_from moments 0 tasks

-- the earlier of a time and a task's first release, which is the task's earliest
abbrev pub earlier : Option ℕ → List Release → Option ℕ
earlier found [] = found
earlier found (r ∷ rs) = Some (option_map_or (λ t. min t r.time) found r.time)

-- the earliest release of all tasks
abbrev pub earliest : List (List Release) → Option ℕ
earliest jobs = fold earlier None jobs

-- time 0
abbrev pub time_zero : List (List Release) → ℕ
time_zero jobs = unwrap_or (earliest jobs) 0

-- how long the workload goes on: up to the last moment, and at least 1 us
abbrev pub workload_ticks : List Moment → List (List Release) → ℕ
workload_ticks moments jobs = max 1 (time_at_end moments - time_zero jobs)

-- ---- calls

-- a task with a job is admitted, under its number and 1, so late that it starts with its first job
abbrev pub admit_of : ℕ → ℕ → Task → List Release → List Call
admit_of start n t [] = []
admit_of start n t (r ∷ rs) =
    Admit (n + 1) t.name t.params (first_release (r ∷ rs) - start) (script_of_jobs (r ∷ rs)) ∷ []

unfoldable pub admits_from : ℕ → ℕ → List Task → List (List Release) → List Call
admits_from start n [] jobs = []
admits_from start n (t ∷ tasks) [] = []
admits_from start n (t ∷ tasks) (js ∷ jobs) =
    admit_of start n t js ++ admits_from start (n + 1) tasks jobs

-- an advance goes on by 60000000 us at most
unfoldable pub full_advances : ℕ → List Call
full_advances zero = []
full_advances (suc n) = Advance max_advance ∷ full_advances n

abbrev pub last_advance : ℕ → List Call
last_advance ticks = if ticks == 0 then [] else Advance ticks ∷ []

abbrev pub advances : ℕ → List Call
advances ticks = full_advances (ticks / max_advance) ++ last_advance (ticks % max_advance)

-- ---- the section

abbrev pub workload_entry : ℕ → Call → Entry
workload_entry seq call = record { client = 1; seq = seq; call = call; reply = None }

-- client 1 makes them all
unfoldable pub numbered_from : ℕ → List Call → List Entry
numbered_from n [] = []
numbered_from n (c ∷ calls) = workload_entry n c ∷ numbered_from (n + 1) calls

abbrev pub calls_by : List Moment → List Task → List (List Release) → List Call
calls_by moments tasks jobs =
    admits_from (time_zero jobs) 0 tasks jobs ++ advances (workload_ticks moments jobs)

abbrev pub workload_cpus : List Moment → Shape → ℕ
workload_cpus moments shape = unwrap_or shape.cpus (cpus_used moments)

-- the workload of these moments, which are in the order of time
abbrev pub workload_of : List Moment → List Task → Shape → SectionView
workload_of moments tasks shape =
    record {
      cpus = workload_cpus moments shape;
      limit = shape.limit;
      entries = numbered_from 0 (calls_by moments tasks (jobs_of_all moments tasks));
    }
