use Rattle.std.proofs.Common.{arith}
use Rattle.std.proofs.lemmas.Grind.{common_steps}
use Rattle.domain_run.proofs.state.State.make_room.Goals as goal

pub overflow_add-more : goal.overflow_add-more
overflow_add-more c = grind (arith, common_steps)
