use Rattle.std.proofs.Common.{◌≡◌, ◌++◌, drop}
use Rattle.recorded_jobs.specs.Releases.{wakes_of}
use Rattle.recorded_jobs.proofs.releasing.wakes_of.Given as goal

abbrev pub invariant-loop-moment : goal.invariant-loop-moment
invariant-loop-moment l = l.wakes.items ++ wakes_of l.task (drop l.moment-index l.moments) ≡ wakes_of l.task l.moments
