use Rattle.std.proofs.Common.{rules}
use Rattle.domain_run.proofs.task_table.rating.charge_for.Goals as goal

pub returns-clause-waits : goal.returns-clause-waits
returns-clause-waits c = search rules
