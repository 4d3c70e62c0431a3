use Rattle.std.proofs.Common.{rules}
use Rattle.tick_split.proofs.rules.work_out.Goals as goal

pub returns : goal.returns
returns c = search rules
