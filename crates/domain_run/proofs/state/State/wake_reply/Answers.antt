use Rattle.std.proofs.Common.{rules}
use Rattle.domain_run.proofs.state.State.wake_reply.Goals as goal

pub returns-in-Some : goal.returns-in-Some
returns-in-Some c = search rules
