use Rattle.std.proofs.Common.{arith}
use Rattle.std.proofs.lemmas.Grind.{common_steps}
use Rattle.domain_run.proofs.state.State.depart.Goals as goal

-- `auto` finds it too; written out, a wrong body is refused here, and not after a search
pub returns-then-eq-clause-domain : goal.returns-then-eq-clause-domain
returns-then-eq-clause-domain c = grind (arith, common_steps)
