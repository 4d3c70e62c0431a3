use Rattle.std.proofs.Common.{arith}
use Rattle.std.proofs.lemmas.Grind.{common_steps}
use Rattle.domain_run.proofs.state.State.may_regrade.Goals as goal

-- `auto` finds it too; written out, a wrong body is refused here, and not after a search
pub returns-clause-room : goal.returns-clause-room
returns-clause-room c = grind (arith, common_steps)
