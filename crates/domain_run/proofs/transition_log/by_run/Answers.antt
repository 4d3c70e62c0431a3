use Rattle.std.proofs.Common.{arith}
use Rattle.std.proofs.lemmas.Grind.{common_steps}
use Rattle.domain_run.proofs.transition_log.by_run.Goals as goal

-- `auto` finds it too; written out, a wrong body is refused here, and not after a search
pub returns : goal.returns
returns c = grind (arith, common_steps)
