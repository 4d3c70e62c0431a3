use Rattle.domain_run.proofs.Served.{woken_served}
use Rattle.domain_run.proofs.parts.wake_server.Goals as goal

pub returns-clause-served : goal.returns-clause-served
returns-clause-served c = rw c.on_wake.ensures.value (woken_served c.args.task.now.params c.args.time c.args.task.now.server c.on_wake.ensures.ordered c.requires.served)
