use Rattle.std.proofs.Common.{arith}
use Rattle.std.proofs.lemmas.Grind.{common_steps}
use Rattle.domain_run.proofs.task_table.TaskTable.number_at.Goals as goal

pub at-requires : goal.at-requires
at-requires c = grind (arith, common_steps)
