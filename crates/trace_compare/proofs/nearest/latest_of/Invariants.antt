use Rattle.std.proofs.Common.{◌≡◌, take, max}
use Rattle.std.specs.Prelude.{fold}
use Rattle.trace_compare.proofs.nearest.latest_of.Given as goal

abbrev pub invariant-loop-run : goal.invariant-loop-run
invariant-loop-run l = l.time ≡ fold (λ at r. max at r.«end») l.initial.time (take l.run-index l.runs)
