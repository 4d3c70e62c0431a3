-- What a contract sees of the jobs of a task while its entries go by.
use Rattle.std.specs.Prelude.{ℕ, List, Option}
use Rattle.run_figures.specs.declared.job.Job.{Job}

-- the jobs that are over, and the one that is under way
pub record JobLineView : Type 0 where
  pub number : ℕ
  pub over : List Job
  pub job : Option Job
