use Rattle.std.proofs.lemmas.Grind.{common_steps}
use Rattle.std.proofs.Common.{arith}
use Rattle.domain_run.proofs.index.searched.Goals as goal

pub returns-then-at-number-clause-there : goal.returns-then-at-number-clause-there
returns-then-at-number-clause-there c = grind (arith, common_steps)
