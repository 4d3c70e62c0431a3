use Rattle.std.proofs.Common.{rules}
use Rattle.due_times.proofs.stale.StaleCharges.clear.Goals as goal

pub returns-clause-cleared : goal.returns-clause-cleared
returns-clause-cleared c = search rules
