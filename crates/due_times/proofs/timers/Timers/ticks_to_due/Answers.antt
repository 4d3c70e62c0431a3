use Rattle.std.proofs.Common.{rules}
use Rattle.due_times.proofs.timers.Timers.ticks_to_due.Goals as goal

pub returns : goal.returns
returns c = search rules
