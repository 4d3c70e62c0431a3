use Rattle.std.proofs.lemmas.Grind.{common_steps}
use Rattle.std.proofs.Common.{arith}
use Rattle.draft.proofs.draft.Draft.fill.Goals as goal

pub returns-else-self : goal.returns-else-self
returns-else-self c = grind (arith, common_steps)
