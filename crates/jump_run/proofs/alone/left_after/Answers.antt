use Rattle.std.proofs.Common.{rules}
use Rattle.jump_run.proofs.alone.left_after.Goals as goal

pub returns : goal.returns
returns c = search rules
