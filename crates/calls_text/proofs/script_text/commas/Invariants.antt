use Rattle.std.proofs.Common.{length}
use Rattle.calls_text.proofs.script_text.commas.Given as goal

abbrev pub decreases-loop-rest : goal.decreases-loop-rest
decreases-loop-rest l = length l.rest
