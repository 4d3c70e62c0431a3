use Rattle.std.proofs.Common.{rules}
use Rattle.attr_check.proofs.ratio.to_ratio.Goals as goal

pub returns-in-Some : goal.returns-in-Some
returns-in-Some c = search rules
