-- What a recording shows of its tasks.
use Rattle.std.specs.Prelude.{◌≡◌, ℕ, ◌<◌, List, length, slice_index_or}
use Rattle.std.specs.declared.vec.Vec.{Vec}
use Rattle.std.specs.Global.{Global}
use Rattle.recorded_jobs.specs.declared.moment.Moment.{Moment}
use Rattle.recorded_jobs.specs.declared.job.Release.{Release}
use Rattle.recorded_jobs.specs.declared.finding.Found.{Found}
use Rattle.recorded_jobs.specs.Stretches.{all_stretches}
use Rattle.recorded_jobs.specs.Releases.{time_at_end, jobs_of_task}
use Rattle.recorded_jobs.specs.CpusUsed.{cpus_run_on}

-- each task has its jobs
pub record AreJobsFound (moments : List Moment) (tasks : ℕ) (jobs : List (Vec Release Global))
    : Type 0 where
  pub as_many : length jobs ≡ tasks
  pub each : (j : ℕ) (d : Vec Release Global) → j < tasks
      → (slice_index_or jobs j d).items ≡ jobs_of_task moments j

pub record ShowsJobs (moments : List Moment) (tasks : ℕ) (found : Found) : Type 0 where
  pub jobs : AreJobsFound moments tasks found.jobs.items
  pub cpus : found.cpus.items ≡ cpus_run_on (all_stretches (time_at_end moments) moments)
