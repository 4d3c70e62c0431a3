use Rattle.std.proofs.lemmas.Grind.{common_steps}
use Rattle.std.proofs.Common.{arith}
use Rattle.due_times.proofs.charges.OpenCharges.next_ended.Goals as goal

pub returns-clause-ended : goal.returns-clause-ended
returns-clause-ended c = grind (arith, common_steps)
