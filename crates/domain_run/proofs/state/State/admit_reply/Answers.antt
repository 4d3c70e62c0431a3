use Rattle.std.proofs.Common.{arith}
use Rattle.std.proofs.lemmas.Grind.{common_steps}
use Rattle.domain_run.proofs.state.State.admit_reply.Goals as goal

pub returns-then-len-ge256-clause-reply : goal.returns-then-len-ge256-clause-reply
returns-then-len-ge256-clause-reply c = grind (arith, common_steps)

pub returns-then-len-ge256-clause-busy : goal.returns-then-len-ge256-clause-busy
returns-then-len-ge256-clause-busy c = grind (arith, common_steps)

pub returns-then-contains-clause-reply : goal.returns-then-contains-clause-reply
returns-then-contains-clause-reply c = grind (arith, common_steps)

pub returns-then-contains-clause-busy : goal.returns-then-contains-clause-busy
returns-then-contains-clause-busy c = grind (arith, common_steps)

pub returns-then-sum-bandwidth-clause-reply : goal.returns-then-sum-bandwidth-clause-reply
returns-then-sum-bandwidth-clause-reply c = grind (arith, common_steps)

pub returns-then-sum-bandwidth-clause-busy : goal.returns-then-sum-bandwidth-clause-busy
returns-then-sum-bandwidth-clause-busy c = grind (arith, common_steps)

pub returns-else-sum-bandwidth-clause-reply : goal.returns-else-sum-bandwidth-clause-reply
returns-else-sum-bandwidth-clause-reply c = grind (arith, common_steps)

pub returns-else-sum-bandwidth-clause-busy : goal.returns-else-sum-bandwidth-clause-busy
returns-else-sum-bandwidth-clause-busy c = grind (arith, common_steps)
