use Rattle.std.proofs.Common.{arith}
use Rattle.std.proofs.lemmas.Grind.{common_steps}
use Rattle.domain_run.proofs.state.State.leave.Goals as goal

-- `auto` finds it too; written out, a wrong body is refused here, and not after a search
pub returns-else-eq-clause-domain : goal.returns-else-eq-clause-domain
returns-else-eq-clause-domain c = grind (arith, common_steps)
