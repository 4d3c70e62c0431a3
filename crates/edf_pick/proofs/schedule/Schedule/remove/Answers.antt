use Rattle.std.proofs.Common.{arith}
use Rattle.std.proofs.lemmas.Grind.{common_steps}
use Rattle.edf_pick.proofs.schedule.Schedule.remove.Goals as goal

-- `auto` finds it too; written out, a wrong body is refused here, and not after a search
pub returns-clause-removed : goal.returns-clause-removed
returns-clause-removed c = grind (arith, common_steps)
