use Rattle.std.proofs.Common.{arith}
use Rattle.std.proofs.lemmas.Grind.{common_steps}
use Rattle.json_order.proofs.reading.value_at_end.Goals as goal

pub returns-then-not-is_empty-clause-none : goal.returns-then-not-is_empty-clause-none
returns-then-not-is_empty-clause-none c = grind (arith, common_steps)

pub returns-then-not-is_empty-clause-some : goal.returns-then-not-is_empty-clause-some
returns-then-not-is_empty-clause-some c = grind (arith, common_steps)

pub returns-in-Behind-clause-none : goal.returns-in-Behind-clause-none
returns-in-Behind-clause-none c = grind (arith, common_steps)

pub returns-in-Behind-clause-some : goal.returns-in-Behind-clause-some
returns-in-Behind-clause-some c = grind (arith, common_steps)

pub returns-then-is_done-clause-none : goal.returns-then-is_done-clause-none
returns-then-is_done-clause-none c = grind (arith, common_steps)

pub returns-in-Number-clause-none : goal.returns-in-Number-clause-none
returns-in-Number-clause-none c = grind (arith, common_steps)

pub returns-in-Number-clause-some : goal.returns-in-Number-clause-some
returns-in-Number-clause-some c = grind (arith, common_steps)

pub returns-in-Some-clause-none : goal.returns-in-Some-clause-none
returns-in-Some-clause-none c = grind (arith, common_steps)

pub returns-in-Some-clause-some : goal.returns-in-Some-clause-some
returns-in-Some-clause-some c = grind (arith, common_steps)

pub returns-in-Word-clause-none : goal.returns-in-Word-clause-none
returns-in-Word-clause-none c = grind (arith, common_steps)

pub returns-in-Word-clause-some : goal.returns-in-Word-clause-some
returns-in-Word-clause-some c = grind (arith, common_steps)

pub returns : goal.returns
returns c = grind (arith, common_steps)
