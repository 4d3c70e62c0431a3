use Rattle.std.proofs.Common.{rules}
use Rattle.cbs_rules.proofs.rules.is_throttled.Goals as goal

pub returns : goal.returns
returns c = search rules
