use Rattle.std.proofs.lemmas.Grind.{common_steps}
use Rattle.std.proofs.Common.{arith}
use Rattle.due_times.proofs.charges.OpenCharges.is_free.Goals as goal

pub returns : goal.returns
returns c = grind (arith, common_steps)
