use Rattle.std.proofs.Common.{◌≡◌, drop, map}
use Rattle.recorded_workload.specs.Refusals.{long_from}
use Rattle.recorded_workload.proofs.jobs.long_sleep.Given as goal

abbrev pub invariant-loop-task : goal.invariant-loop-task
invariant-loop-task l = long_from l.start 0 (map (λ v. v.items) l.jobs) ≡ long_from l.start l.task (map (λ v. v.items) (drop l.task l.jobs))
