use Rattle.std.proofs.Common.{arith}
use Rattle.due_times.proofs.Leaves.{least_later}
use Rattle.due_times.proofs.timers.Timers.next_due.Goals as goal

pub returns-then-least-time-clause-others : goal.returns-then-least-time-clause-others
returns-then-least-time-clause-others c place from before within = least_later c.args.time c.args.self.now place (omega (arith, c.least.ensures, c.if-least-time.true)) within
