use Rattle.std.proofs.Common.{◌≡◌, ◌++◌, drop}
use Rattle.recorded_jobs.specs.Stretches.{stretches_of}
use Rattle.recorded_jobs.proofs.stretch.stretches_of.Given as goal

abbrev pub invariant-loop-stretch : goal.invariant-loop-stretch
invariant-loop-stretch l = l.own.items ++ stretches_of l.task (drop l.stretch-index l.stretches) ≡ stretches_of l.task l.stretches
