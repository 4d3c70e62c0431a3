use Rattle.std.proofs.Common.{◌≡◌, drop, List, ℕ}
use Rattle.std.specs.Prelude.{fold}
use Rattle.recorded_jobs.specs.declared.stretch.Stretch.{Stretch}
use Rattle.recorded_jobs.specs.CpusUsed.{with_new_cpu, cpus_run_on}
use Rattle.recorded_jobs.proofs.finding.cpus_run_on.Given as goal

abbrev pub invariant-loop-stretch : goal.invariant-loop-stretch
invariant-loop-stretch l = fold (λ (cpus : List ℕ) (s : Stretch). with_new_cpu cpus s.cpu) l.cpus.items (drop l.stretch-index l.stretches) ≡ cpus_run_on l.stretches
