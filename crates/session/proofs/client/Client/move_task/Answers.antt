use Rattle.std.proofs.Common.{rules}
use Rattle.session.proofs.client.Client.move_task.Goals as goal

pub returns-in-Some-clause-moved : goal.returns-in-Some-clause-moved
returns-in-Some-clause-moved g c = search rules
