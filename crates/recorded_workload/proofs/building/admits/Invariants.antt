use Rattle.std.proofs.Common.{◌≡◌, ◌++◌, drop, map, length, None}
use Rattle.recorded_workload.specs.Workload.{admits_from, numbered_from}
use Rattle.recorded_workload.specs.Refusals.{long_from}
use Rattle.recorded_workload.proofs.building.admits.Given as goal

abbrev pub invariant-loop-n : goal.invariant-loop-n
invariant-loop-n l = record {
  found : l.entries.items ++ numbered_from (length l.entries.items) (admits_from l.start l.n (drop l.n l.tasks) (map (λ v. v.items) (drop l.n l.jobs))) ≡ numbered_from 0 (admits_from l.start 0 l.tasks (map (λ v. v.items) l.jobs));
  short : long_from l.start l.n (map (λ v. v.items) (drop l.n l.jobs)) ≡ None;
}
