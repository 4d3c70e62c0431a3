use Rattle.std.proofs.Common.{rules}
use Rattle.bw_world.proofs.domain.Domain.take.Goals as goal

pub returns-in-Some-clause-domain : goal.returns-in-Some-clause-domain
returns-in-Some-clause-domain c = search rules
