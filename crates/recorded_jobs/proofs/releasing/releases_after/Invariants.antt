use Rattle.std.proofs.Common.{◌≡◌, ◌++◌, drop}
use Rattle.recorded_jobs.specs.Releases.{releases_after}
use Rattle.recorded_jobs.proofs.releasing.releases_after.Given as goal

abbrev pub invariant-loop-job : goal.invariant-loop-job
invariant-loop-job l = l.releases.items ++ releases_after l.after l.wakes (drop l.job-index l.jobs) ≡ releases_after 0 l.wakes l.jobs
