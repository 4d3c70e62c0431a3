use Rattle.std.proofs.Common.{rules}
use Rattle.grub_rules.proofs.accounts.Accounts.part.Goals as goal

pub invariant_of-self : goal.invariant_of-self
invariant_of-self c = search rules
