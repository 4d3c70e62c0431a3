-- The jobs of a task, read off what happened to it (own; job, release and deadline as in sched(7),
-- "SCHED_DEADLINE").
use Rattle.std.specs.Prelude.{ℕ, ◌+◌, ◌==◌, true, false, List, [], ◌∷◌, ◌++◌, filter, Option, Some, None}
use Rattle.std.specs.Option.{option_map, option_to_list}
use Rattle.domain_run.specs.declared.happened.What.{What}
use Rattle.domain_run.specs.declared.happened.What.TheVariants.{JobEnds, NextReleased, Spent, Cut, Replenished, Released, WokenSpent}
use Rattle.domain_run.specs.declared.happened.Happened.{Happened}
use Rattle.run_figures.specs.declared.job.Job.{Job}
use Rattle.run_figures.specs.TaskJobsView.{TaskJobsView}

-- what happened to one task, in its order
abbrev pub of_task : ℕ → List Happened → List Happened
of_task number happened = filter (λ h. h.number == number) happened

-- a job as it is released
abbrev pub new_job : ℕ → ℕ → Job
new_job time deadline =
    record { release = time; deadline = deadline; ended = None; throttled = 0; cut = false }

-- the job under way, where it is over by this: it ends, or is cut; and it is over where another one
-- is released
abbrev pub job_closed : ℕ → What → Job → Option Job
job_closed time JobEnds job = Some (record job { ended = Some time })
job_closed time Cut job = Some (record job { cut = true })
job_closed time (NextReleased deadline) job = Some job
job_closed time (Released deadline) job = Some job
job_closed time (Spent deadline) job = None
job_closed time (Replenished deadline) job = None
job_closed time (WokenSpent deadline) job = None

abbrev pub over_by : ℕ → What → Option Job → Option Job
over_by time what None = None
over_by time what (Some job) = job_closed time what job

-- the job that is under way then
abbrev pub once_more : Job → Job
once_more job = record job { throttled = job.throttled + 1 }

abbrev pub job_after : ℕ → What → Option Job → Option Job
job_after time JobEnds job = None
job_after time Cut job = None
job_after time (NextReleased deadline) job = Some (new_job time deadline)
job_after time (Released deadline) job = Some (new_job time deadline)
job_after time (Spent deadline) job = option_map once_more job
job_after time (Replenished deadline) job = job
job_after time (WokenSpent deadline) job = option_map once_more job

-- the jobs of a task in their order, of which one may be under way before
abbrev pub jobs_from : Option Job → List Happened → List Job
jobs_from job [] = option_to_list job
jobs_from job (h ∷ hs) =
    option_to_list (over_by h.time h.what job) ++ jobs_from (job_after h.time h.what job) hs

-- the jobs that a domain's list tells of a task: the first is job 0
abbrev pub jobs_of : List Happened → ℕ → List Job
jobs_of happened number = jobs_from None (of_task number happened)

-- of each of these tasks
abbrev pub task_jobs : List Happened → ℕ → TaskJobsView
task_jobs happened number = record { number = number; jobs = jobs_of happened number }
