use Rattle.due_times.specs.private.TimerTree.{IsOnWay}
use Rattle.due_times.proofs.Descending.{IsWidth}
use Rattle.due_times.proofs.timer_tree.first_come.Given as goal

abbrev pub invariant-loop-span : goal.invariant-loop-span
invariant-loop-span l = record {
  width : IsWidth l.span;
  way : IsOnWay l.nodes l.time l.at l.span;
}

abbrev pub decreases-loop-span : goal.decreases-loop-span
decreases-loop-span l = l.span
