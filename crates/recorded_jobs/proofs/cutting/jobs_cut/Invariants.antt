use Rattle.std.proofs.Common.{◌≡◌, ◌++◌, length}
use Rattle.recorded_jobs.specs.Jobs.{jobs_cut}
use Rattle.recorded_jobs.proofs.cutting.jobs_cut.Given as goal

abbrev pub invariant-loop-rest : goal.invariant-loop-rest
invariant-loop-rest l = l.jobs.items ++ jobs_cut l.rest ≡ jobs_cut l.stretches

abbrev pub decreases-loop-rest : goal.decreases-loop-rest
decreases-loop-rest l = length l.rest
