use Rattle.std.proofs.Common.{rules}
use Rattle.due_times.proofs.timers.Timers.may_be_due.Goals as goal

pub returns-clause-come : goal.returns-clause-come
returns-clause-come c = search rules
