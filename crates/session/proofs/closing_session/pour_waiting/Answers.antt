use Rattle.std.proofs.Common.{arith}
use Rattle.std.proofs.lemmas.Grind.{common_steps}
use Rattle.session.proofs.closing_session.pour_waiting.Goals as goal

pub loop-hand-preserved : goal.loop-hand-preserved
loop-hand-preserved g c = grind (arith, common_steps)
