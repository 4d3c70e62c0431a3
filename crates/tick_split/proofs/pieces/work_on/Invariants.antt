use Rattle.std.proofs.Common.{◌≡◌, map, take, drop, ◌++◌}
use Rattle.tick_split.proofs.pieces.work_on.Given as goal

abbrev pub invariant-loop-item : goal.invariant-loop-item
invariant-loop-item g l = l.items ≡ map g.W.Work.done (take l.item-index l.initial.items) ++ drop l.item-index l.initial.items
