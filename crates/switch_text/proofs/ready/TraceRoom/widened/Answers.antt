use Rattle.std.proofs.Common.{arith}
use Rattle.std.proofs.lemmas.Grind.{common_steps}
use Rattle.switch_text.proofs.ready.TraceRoom.widened.Goals as goal

pub loop-slots-preserved : goal.loop-slots-preserved
loop-slots-preserved c = grind (arith, common_steps)

pub returns : goal.returns
returns c = grind (arith, common_steps)
