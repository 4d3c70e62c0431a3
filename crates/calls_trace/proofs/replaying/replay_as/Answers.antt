use Rattle.std.proofs.Common.{arith}
use Rattle.std.proofs.lemmas.Grind.{common_steps}
use Rattle.calls_trace.proofs.replaying.replay_as.Goals as goal

-- `auto` finds it too; written out, a wrong body is refused here, and not after a search
pub returns-clause-ok : goal.returns-clause-ok
returns-clause-ok c = grind (arith, common_steps)
