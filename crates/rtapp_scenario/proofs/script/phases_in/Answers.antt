use Rattle.std.proofs.Common.{arith}
use Rattle.std.proofs.lemmas.Grind.{common_steps}
use Rattle.rtapp_scenario.proofs.script.phases_in.Goals as goal

pub loop-phase-preserved : goal.loop-phase-preserved
loop-phase-preserved c = grind (arith, common_steps)

pub returns : goal.returns
returns c = grind (arith, common_steps)
