use Rattle.std.proofs.Common.{rules}
use Rattle.draft.proofs.draft.Draft.refuse.Goals as goal

pub returns : goal.returns
returns c = search rules
