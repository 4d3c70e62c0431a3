use Rattle.std.proofs.Common.{arith}
use Rattle.std.proofs.lemmas.Grind.{common_steps}
use Rattle.domain_run.proofs.task_table.rating.lasting.Goals as goal

pub lasting_at_one-at_one-requires-clause-left : goal.lasting_at_one-at_one-requires-clause-left
lasting_at_one-at_one-requires-clause-left c = grind (arith, common_steps)

pub lasting_at_one-at_one-requires-clause-high : goal.lasting_at_one-at_one-requires-clause-high
lasting_at_one-at_one-requires-clause-high c = grind (arith, common_steps)

pub returns-then-wanted-at_one-clause-some : goal.returns-then-wanted-at_one-clause-some
returns-then-wanted-at_one-clause-some c = grind (arith, common_steps)

pub returns-then-wanted-at_one-clause-most : goal.returns-then-wanted-at_one-clause-most
returns-then-wanted-at_one-clause-most c = grind (arith, common_steps)

pub returns-then-wanted-at_one-clause-lasted : goal.returns-then-wanted-at_one-clause-lasted
returns-then-wanted-at_one-clause-lasted c = grind (arith, common_steps)

pub div_ceil-requires : goal.div_ceil-requires
div_ceil-requires c = grind (arith, common_steps)

pub returns-clause-some : goal.returns-clause-some
returns-clause-some c = grind (arith, common_steps)

pub returns-clause-most : goal.returns-clause-most
returns-clause-most c = grind (arith, common_steps)

pub returns-clause-lasted : goal.returns-clause-lasted
returns-clause-lasted c = grind (arith, common_steps)
