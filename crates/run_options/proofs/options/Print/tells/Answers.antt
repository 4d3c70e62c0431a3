use Rattle.std.proofs.Common.{rules}
use Rattle.run_options.proofs.options.Print.tells.Goals as goal

pub returns-in_default : goal.returns-in_default
returns-in_default c = search rules
