use Rattle.std.proofs.Common.{rules}
use Rattle.due_times.proofs.stale.StaleCharges.mark_rated.Goals as goal

pub returns-clause-bare : goal.returns-clause-bare
returns-clause-bare c = search rules

pub returns-clause-free : goal.returns-clause-free
returns-clause-free c = search rules

pub returns-clause-others : goal.returns-clause-others
returns-clause-others c = search rules
