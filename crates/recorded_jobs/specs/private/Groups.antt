-- How many stretches the first job has. No public clause names it.
use Rattle.std.specs.Prelude.{ℕ, suc, nat_lt, if◌then◌else◌, List, [], ◌∷◌, filter}
use Rattle.recorded_jobs.specs.declared.stretch.Stretch.{Stretch}
use Rattle.recorded_jobs.specs.declared.job.Job.{Job}
use Rattle.recorded_jobs.specs.Jobs.{is_closed}

-- up to the first closed one, or all
unfoldable pub group_len : List Stretch → ℕ
group_len [] = 0
group_len (s ∷ ss) = if is_closed s then 1 else suc (group_len ss)

abbrev pub with_work : List Job → List Job
with_work jobs = filter (λ j. nat_lt 0 j.work) jobs
