use Rattle.std.proofs.Common.{arith}
use Rattle.std.proofs.lemmas.Grind.{common_steps}
use Rattle.domain_run.proofs.state.State.admit.Goals as goal

pub list-requires-clause-granted : goal.list-requires-clause-granted
list-requires-clause-granted c = grind (arith, common_steps)

pub list-requires-clause-small : goal.list-requires-clause-small
list-requires-clause-small c = grind (arith, common_steps)

pub list-requires-clause-delay : goal.list-requires-clause-delay
list-requires-clause-delay c = grind (arith, common_steps)

pub returns-in-Admitted-clause-domain : goal.returns-in-Admitted-clause-domain
returns-in-Admitted-clause-domain c = grind (arith, common_steps)

pub returns-in-Admitted-clause-admitted : goal.returns-in-Admitted-clause-admitted
returns-in-Admitted-clause-admitted c = grind (arith, common_steps)

pub returns-in-Admitted-clause-reply : goal.returns-in-Admitted-clause-reply
returns-in-Admitted-clause-reply c = grind (arith, common_steps)

pub returns-in-Admitted-clause-refused : goal.returns-in-Admitted-clause-refused
returns-in-Admitted-clause-refused c = grind (arith, common_steps)

pub returns-in-Admitted-clause-busy : goal.returns-in-Admitted-clause-busy
returns-in-Admitted-clause-busy c = grind (arith, common_steps)

pub returns-in-Admitted-clause-back : goal.returns-in-Admitted-clause-back
returns-in-Admitted-clause-back c = grind (arith, common_steps)

pub returns-in_default : goal.returns-in_default
returns-in_default c = grind (arith, common_steps)
