use Rattle.trace_compare.specs.private.Behind.{AreRunsSettled}
use Rattle.trace_compare.proofs.gather.settle_all.Given as goal

abbrev pub invariant-loop-j : goal.invariant-loop-j
invariant-loop-j l = AreRunsSettled l.noise l.model l.recorded l.j l.tasks.items
