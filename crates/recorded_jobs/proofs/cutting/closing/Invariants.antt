use Rattle.std.proofs.Common.{◌≡◌, drop}
use Rattle.std.specs.Prelude.{find}
use Rattle.recorded_jobs.specs.Jobs.{is_closed}
use Rattle.recorded_jobs.proofs.cutting.closing.Given as goal

abbrev pub invariant-loop-stretch : goal.invariant-loop-stretch
invariant-loop-stretch l = find is_closed (drop l.stretch-index l.stretches) ≡ find is_closed l.stretches
