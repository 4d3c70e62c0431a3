use Rattle.std.proofs.Common.{rules}
use Rattle.task_script.proofs.script.Script.loops.Goals as goal

pub returns-in-None : goal.returns-in-None
returns-in-None c = search rules
