use Rattle.std.proofs.Common.{arith}
use Rattle.std.proofs.lemmas.Grind.{common_steps}
use Rattle.rtapp_scenario.specs.Values.{members_of}
use Rattle.rtapp_scenario.proofs.Numbered.{numbered_tasks, few_of}
use Rattle.rtapp_scenario.proofs.parsing.parse_lent.Goals as goal

pub returns-clause-numbered : goal.returns-clause-numbered
returns-clause-numbered c = numbered_tasks (members_of c.members_at-threads.result.now) c.in_ok-tasks.tasks.items c.in_ok-tasks.ensures.found

pub returns-clause-few : goal.returns-clause-few
returns-clause-few c = few_of (members_of c.members_at-threads.result.now) c.in_ok-tasks.tasks.items c.in_ok-tasks.ensures.found c.in_ok-tasks.ensures.passed

pub returns-then-is_empty-clause-fault : goal.returns-then-is_empty-clause-fault
returns-then-is_empty-clause-fault c = grind (arith, common_steps)

pub returns-in_default-clause-fault : goal.returns-in_default-clause-fault
returns-in_default-clause-fault c = grind (arith, common_steps)

pub returns-in-Err-clause-fault : goal.returns-in-Err-clause-fault
returns-in-Err-clause-fault c = grind (arith, common_steps)

pub returns-clause-found : goal.returns-clause-found
returns-clause-found c = grind (arith, common_steps)

pub returns-in_err-tasks-clause-fault : goal.returns-in_err-tasks-clause-fault
returns-in_err-tasks-clause-fault c = grind (arith, common_steps)

pub returns-clause-short : goal.returns-clause-short
returns-clause-short c = grind (arith, common_steps)

pub overflow_mul-result : goal.overflow_mul-result
overflow_mul-result c = omega (arith, c.in-Some.ensures.most)

pub returns-clause-limits : goal.returns-clause-limits
returns-clause-limits c = c.in_ok-tasks.ensures.limits
