-- What a contract sees of the jobs of a task.
use Rattle.std.specs.Prelude.{ℕ, List}
use Rattle.run_figures.specs.declared.job.Job.{Job}

-- the task's number, and its jobs: the first is job 0
pub record TaskJobsView : Type 0 where
  pub number : ℕ
  pub jobs : List Job
