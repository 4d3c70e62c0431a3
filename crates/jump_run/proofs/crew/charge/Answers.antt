use Rattle.std.proofs.Common.{rules}
use Rattle.jump_run.proofs.crew.charge.Goals as goal

pub returns-then-is_err : goal.returns-then-is_err
returns-then-is_err g c = search rules
