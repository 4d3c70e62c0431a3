use Rattle.std.proofs.Common.{◌≡◌, drop, map}
use Rattle.std.specs.Prelude.{fold}
use Rattle.recorded_workload.specs.Workload.{earlier, earliest}
use Rattle.recorded_workload.proofs.jobs.earliest.Given as goal

abbrev pub invariant-loop-own : goal.invariant-loop-own
invariant-loop-own l = fold earlier l.found (map (λ v. v.items) (drop l.own-index l.jobs)) ≡ earliest (map (λ v. v.items) l.jobs)
