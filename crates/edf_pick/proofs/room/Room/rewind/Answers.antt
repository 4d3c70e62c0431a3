use Rattle.std.proofs.Common.{arith}
use Rattle.std.proofs.lemmas.Grind.{common_steps}
use Rattle.edf_pick.proofs.room.Room.rewind.Goals as goal

pub returns-clause-tasks : goal.returns-clause-tasks
returns-clause-tasks c = grind (arith, common_steps)

pub returns-clause-end : goal.returns-clause-end
returns-clause-end c = grind (arith, common_steps)
