use Rattle.std.proofs.Common.{arith}
use Rattle.std.proofs.lemmas.Grind.{common_steps}
use Rattle.domain_run.proofs.task_table.lending.balance_of.Goals as goal

pub overflow_sub-ticks : goal.overflow_sub-ticks
overflow_sub-ticks c = grind (arith, common_steps)

pub left_after_run-requires-clause-slow : goal.left_after_run-requires-clause-slow
left_after_run-requires-clause-slow c = grind (arith, common_steps)

pub left_after_run-requires-clause-few : goal.left_after_run-requires-clause-few
left_after_run-requires-clause-few c = grind (arith, common_steps)

pub left_after_run-requires-clause-lasted : goal.left_after_run-requires-clause-lasted
left_after_run-requires-clause-lasted c = grind (arith, common_steps)

pub overflow_sub-result : goal.overflow_sub-result
overflow_sub-result c = grind (arith, common_steps)

pub returns-in-None-clause-left : goal.returns-in-None-clause-left
returns-in-None-clause-left c = grind (arith, common_steps)

pub returns-in-None-clause-work : goal.returns-in-None-clause-work
returns-in-None-clause-work c = grind (arith, common_steps)

pub returns-in-Some-clause-left : goal.returns-in-Some-clause-left
returns-in-Some-clause-left c = grind (arith, common_steps)

pub returns-in-Some-clause-work : goal.returns-in-Some-clause-work
returns-in-Some-clause-work c = grind (arith, common_steps)
