use Rattle.std.proofs.Common.{◌≡◌, drop, map}
use Rattle.recorded_workload.specs.Refusals.{many_from}
use Rattle.recorded_workload.proofs.jobs.many_jobs.Given as goal

abbrev pub invariant-loop-task : goal.invariant-loop-task
invariant-loop-task l = many_from 0 (map (λ v. v.items) l.jobs) ≡ many_from l.task (map (λ v. v.items) (drop l.task l.jobs))
