use Rattle.std.proofs.Common.{rules}
use Rattle.bw_world.proofs.domain.Domain.hand_over.Goals as goal

pub returns-clause-to : goal.returns-clause-to
returns-clause-to c = search rules

pub returns-clause-from : goal.returns-clause-from
returns-clause-from c = search rules
