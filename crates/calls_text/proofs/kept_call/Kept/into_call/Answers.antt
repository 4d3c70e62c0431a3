use Rattle.std.proofs.Common.{rules}
use Rattle.calls_text.proofs.kept_call.Kept.into_call.Goals as goal

pub returns-in-Leave : goal.returns-in-Leave
returns-in-Leave c = search rules
