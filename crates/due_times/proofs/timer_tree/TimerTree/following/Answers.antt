use Rattle.std.proofs.Common.{arith}
use Rattle.std.proofs.lemmas.Grind.{common_steps}
use Rattle.due_times.proofs.timer_tree.TimerTree.following.Goals as goal

pub overflow_add-half : goal.overflow_add-half
overflow_add-half c = grind (arith, common_steps)

pub following-requires-clause-there : goal.following-requires-clause-there
following-requires-clause-there c = grind (arith, common_steps)

pub following-requires-clause-later : goal.following-requires-clause-later
following-requires-clause-later c = grind (arith, common_steps)

pub returns-clause-others : goal.returns-clause-others
returns-clause-others c = grind (arith, common_steps)
