use Rattle.std.proofs.Common.{rules}
use Rattle.due_times.proofs.charges.OpenCharges.leave.Goals as goal

pub returns-then-is_some : goal.returns-then-is_some
returns-then-is_some c = search rules
