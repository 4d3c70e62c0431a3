use Rattle.std.proofs.Common.{◌≡◌, ◌≤◌, ◌*◌, ◌+◌, ◌-◌, drop, ℕ}
use Rattle.std.specs.Prelude.{fold}
use Rattle.recorded_jobs.specs.declared.stretch.Stretch.{Stretch}
use Rattle.recorded_jobs.specs.Jobs.{work_of}
use Rattle.recorded_jobs.proofs.cutting.work_of.Given as goal

abbrev pub invariant-loop-stretch : goal.invariant-loop-stretch
invariant-loop-stretch l = record {
  most : l.work ≤ l.stretch-index * 18446744073709551616;
  sum : fold (λ (a : ℕ) (s : Stretch). a + (s.«end» - s.start)) l.work (drop l.stretch-index l.stretches) ≡ work_of l.stretches;
}
