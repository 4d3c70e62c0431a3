use Rattle.std.proofs.Common.{◌≡◌, take}
use Rattle.std.specs.Prelude.{fold, max}
use Rattle.calls_trace.proofs.foreseen_text.end_of.Given as goal

abbrev pub invariant-loop-section : goal.invariant-loop-section
invariant-loop-section l = l.«end» ≡ fold (λ end f. max end f.foreseen.ticks) 0 (take l.section-index l.sections)
