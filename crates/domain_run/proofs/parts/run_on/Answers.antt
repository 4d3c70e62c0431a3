use Rattle.std.proofs.Common.{arith}
use Rattle.std.proofs.lemmas.Grind.{common_steps}
use Rattle.domain_run.proofs.parts.run_on.Goals as goal

-- `auto` finds it too; written out, a wrong body is refused here, and not after a search
pub returns-clause-task : goal.returns-clause-task
returns-clause-task c = grind (arith, common_steps)
