use Rattle.std.proofs.Common.{rules}
use Rattle.grub_rules.proofs.accounts.Accounts.wake.Goals as goal

pub returns : goal.returns
returns c = search rules
