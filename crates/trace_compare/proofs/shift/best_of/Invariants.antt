use Rattle.std.specs.Prelude.{sum_by}
use Rattle.trace_compare.specs.Clocks.{IsSmallShift}
use Rattle.trace_compare.specs.Shift.{task_score}
use Rattle.trace_compare.specs.private.Choices.{IsBestSoFar}
use Rattle.trace_compare.proofs.shift.best_of.Given as goal

abbrev pub invariant-loop-shift : goal.invariant-loop-shift
invariant-loop-shift l = record {
  best : IsBestSoFar (λ s. sum_by (task_score l.within l.share s) l.tasks) l.shifts l.shift-index l.best;
  small : IsSmallShift l.best.shift;
}
