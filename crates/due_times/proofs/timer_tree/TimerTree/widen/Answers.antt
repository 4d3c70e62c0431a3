use Rattle.std.proofs.Common.{arith}
use Rattle.std.proofs.lemmas.Grind.{common_steps}
use Rattle.due_times.proofs.timer_tree.TimerTree.widen.Goals as goal

pub widen-requires-clause-tree : goal.widen-requires-clause-tree
widen-requires-clause-tree c = grind (arith, common_steps)

pub widen-requires-clause-few : goal.widen-requires-clause-few
widen-requires-clause-few c = grind (arith, common_steps)
