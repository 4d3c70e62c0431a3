use Rattle.std.proofs.Common.{arith}
use Rattle.std.proofs.lemmas.Grind.{common_steps}
use Rattle.calls_trace.proofs.named_run.RunWithNames.regrade.Goals as goal

-- `auto` finds it too; written out, a wrong body is refused here, and not after a search
pub returns-in-Changed-clause-given : goal.returns-in-Changed-clause-given
returns-in-Changed-clause-given c = grind (arith, common_steps)
