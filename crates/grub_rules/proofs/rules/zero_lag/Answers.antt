use Rattle.std.proofs.Common.{rules}
use Rattle.grub_rules.proofs.rules.zero_lag.Goals as goal

pub returns-then-zero-time : goal.returns-then-zero-time
returns-then-zero-time c = search rules
