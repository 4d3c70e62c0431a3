use Rattle.std.proofs.Common.{arith}
use Rattle.std.proofs.lemmas.Grind.{common_steps}
use Rattle.domain_run.proofs.task_table.applying.apply_settled.Goals as goal

pub make-requires-clause-sound : goal.make-requires-clause-sound
make-requires-clause-sound c = grind (arith, common_steps)

pub make-requires-clause-may : goal.make-requires-clause-may
make-requires-clause-may c = grind (arith, common_steps)

pub returns-in_default-clause-task : goal.returns-in_default-clause-task
returns-in_default-clause-task c = grind (arith, common_steps)

pub returns-in_default-clause-sound : goal.returns-in_default-clause-sound
returns-in_default-clause-sound c = grind (arith, common_steps)

pub returns-in_default-clause-turned : goal.returns-in_default-clause-turned
returns-in_default-clause-turned c = grind (arith, common_steps)

pub returns-in_default-clause-deferring : goal.returns-in_default-clause-deferring
returns-in_default-clause-deferring c = grind (arith, common_steps)

pub apply-requires-clause-narrow : goal.apply-requires-clause-narrow
apply-requires-clause-narrow c = grind (arith, common_steps)

pub apply-requires-clause-turns : goal.apply-requires-clause-turns
apply-requires-clause-turns c = grind (arith, common_steps)

pub returns-clause-task : goal.returns-clause-task
returns-clause-task c = grind (arith, common_steps)

pub returns-clause-sound : goal.returns-clause-sound
returns-clause-sound c = grind (arith, common_steps)

pub returns-clause-turned : goal.returns-clause-turned
returns-clause-turned c = grind (arith, common_steps)

pub returns-clause-deferring : goal.returns-clause-deferring
returns-clause-deferring c = grind (arith, common_steps)
