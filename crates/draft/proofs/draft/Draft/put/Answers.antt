use Rattle.std.proofs.Common.{rules}
use Rattle.draft.proofs.draft.Draft.put.Goals as goal

pub returns-else-self : goal.returns-else-self
returns-else-self c = search rules
