use Rattle.recorded_jobs.proofs.Sums.{work_kept}
use Rattle.recorded_jobs.proofs.laws.work_is_kept.Goals as goal

pub returns : goal.returns
returns c = record { law = work_kept }
