use Rattle.std.proofs.Common.{rules}
use Rattle.draft.proofs.draft.Draft.into_text.Goals as goal

pub returns-else-whole-clause-ok : goal.returns-else-whole-clause-ok
returns-else-whole-clause-ok c = search rules
