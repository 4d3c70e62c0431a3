use Rattle.std.proofs.Common.{arith}
use Rattle.std.proofs.lemmas.Grind.{common_steps}
use Rattle.domain_run.proofs.sweep.add_switches.Goals as goal

pub loop-i-init : goal.loop-i-init
loop-i-init c = grind (arith, common_steps)

pub add_switch-requires-clause-early : goal.add_switch-requires-clause-early
add_switch-requires-clause-early c = grind (arith, common_steps)

pub add_switch-requires-clause-narrow : goal.add_switch-requires-clause-narrow
add_switch-requires-clause-narrow c = grind (arith, common_steps)

pub add_switch-requires-clause-room : goal.add_switch-requires-clause-room
add_switch-requires-clause-room c = grind (arith, common_steps)

pub loop-i-preserved : goal.loop-i-preserved
loop-i-preserved c = grind (arith, common_steps)

pub returns-clause-switches : goal.returns-clause-switches
returns-clause-switches c = grind (arith, common_steps)

pub returns-clause-room : goal.returns-clause-room
returns-clause-room c = grind (arith, common_steps)
