use Rattle.std.proofs.Common.{rules}
use Rattle.bw_world.proofs.domain.Domain.limit.Goals as goal

pub returns-clause-domain : goal.returns-clause-domain
returns-clause-domain c = search rules
