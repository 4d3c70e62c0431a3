use Rattle.std.proofs.Common.{arith}
use Rattle.std.proofs.lemmas.Grind.{common_steps}
use Rattle.domain_run.proofs.state.State.regrade.Goals as goal

pub transition-requires : goal.transition-requires
transition-requires c = grind (arith, common_steps)

pub returns-then-eq-clause-reply : goal.returns-then-eq-clause-reply
returns-then-eq-clause-reply c = grind (arith, common_steps)

pub returns-then-eq-clause-domain : goal.returns-then-eq-clause-domain
returns-then-eq-clause-domain c = grind (arith, common_steps)

pub returns-then-eq-clause-busy : goal.returns-then-eq-clause-busy
returns-then-eq-clause-busy c = grind (arith, common_steps)

pub returns-else-eq-clause-reply : goal.returns-else-eq-clause-reply
returns-else-eq-clause-reply c = grind (arith, common_steps)

pub returns-else-eq-clause-domain : goal.returns-else-eq-clause-domain
returns-else-eq-clause-domain c = grind (arith, common_steps)

pub returns-else-eq-clause-busy : goal.returns-else-eq-clause-busy
returns-else-eq-clause-busy c = grind (arith, common_steps)
