use Rattle.std.proofs.Common.{arith}
use Rattle.std.proofs.lemmas.Grind.{common_steps}
use Rattle.domain_run.proofs.task_table.applying.apply_one.Goals as goal

pub apply_settled-requires-clause-narrow : goal.apply_settled-requires-clause-narrow
apply_settled-requires-clause-narrow c = grind (arith, common_steps)

pub apply_settled-requires-clause-sound : goal.apply_settled-requires-clause-sound
apply_settled-requires-clause-sound c = grind (arith, common_steps)

pub apply_settled-requires-clause-may : goal.apply_settled-requires-clause-may
apply_settled-requires-clause-may c = grind (arith, common_steps)

pub apply_settled-requires-clause-turns : goal.apply_settled-requires-clause-turns
apply_settled-requires-clause-turns c = grind (arith, common_steps)

pub returns-clause-task : goal.returns-clause-task
returns-clause-task c = grind (arith, common_steps)

pub returns-clause-sound : goal.returns-clause-sound
returns-clause-sound c = grind (arith, common_steps)

pub returns-clause-turned : goal.returns-clause-turned
returns-clause-turned c = grind (arith, common_steps)

pub returns-clause-charges : goal.returns-clause-charges
returns-clause-charges c = grind (arith, common_steps)

pub returns-clause-was_started : goal.returns-clause-was_started
returns-clause-was_started c = grind (arith, common_steps)
