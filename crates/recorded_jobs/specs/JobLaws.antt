-- Laws of jobs (own).
use Rattle.std.specs.Prelude.{◌≡◌, ℕ, List, map, sum_by}
use Rattle.recorded_jobs.specs.declared.moment.Moment.{Moment}
use Rattle.recorded_jobs.specs.declared.stretch.Stretch.{Stretch}
use Rattle.recorded_jobs.specs.declared.job.Job.{Job}
use Rattle.recorded_jobs.specs.Stretches.{all_stretches, stretches_of}
use Rattle.recorded_jobs.specs.Jobs.{work_of}
use Rattle.recorded_jobs.specs.Releases.{time_at_end, jobs_of_task}

-- the jobs of a task work as long as its stretches are
abbrev pub WorkIsKept : Type 0
WorkIsKept =
    (moments : List Moment) (task : ℕ)
    → sum_by (λ r. r.job.work) (jobs_of_task moments task)
    ≡ work_of (stretches_of task (all_stretches (time_at_end moments) moments))
