use Rattle.std.proofs.Common.{arith}
use Rattle.std.proofs.lemmas.Grind.{common_steps}
use Rattle.domain_run.proofs.task_table.applying.charge.Goals as goal

pub overflow_sub-ticks : goal.overflow_sub-ticks
overflow_sub-ticks c = grind (arith, common_steps)

pub left_after_run-task-requires-clause-slow : goal.left_after_run-task-requires-clause-slow
left_after_run-task-requires-clause-slow c = grind (arith, common_steps)

pub left_after_run-task-requires-clause-few : goal.left_after_run-task-requires-clause-few
left_after_run-task-requires-clause-few c = grind (arith, common_steps)

pub left_after_run-task-requires-clause-lasted : goal.left_after_run-task-requires-clause-lasted
left_after_run-task-requires-clause-lasted c = grind (arith, common_steps)

pub overflow_sub-task : goal.overflow_sub-task
overflow_sub-task c = grind (arith, common_steps)

pub returns : goal.returns
returns c = grind (arith, common_steps)
