use Rattle.recorded_jobs.specs.Found.{AreJobsFound}
use Rattle.recorded_jobs.proofs.finding.jobs_of_each.Given as goal

abbrev pub invariant-loop-task : goal.invariant-loop-task
invariant-loop-task l = AreJobsFound l.moments l.task l.found.items
