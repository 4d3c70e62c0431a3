use Rattle.std.proofs.Common.{rules}
use Rattle.draft.proofs.draft.Draft.new.Goals as goal

pub returns-clause-whole : goal.returns-clause-whole
returns-clause-whole c = search rules
