use Rattle.std.proofs.Common.{◌≡◌, take, min}
use Rattle.std.specs.Prelude.{fold}
use Rattle.trace_compare.proofs.nearest.earliest_of.Given as goal

abbrev pub invariant-loop-run : goal.invariant-loop-run
invariant-loop-run l = l.time ≡ fold (λ at r. min at r.start) l.initial.time (take l.run-index l.runs)
