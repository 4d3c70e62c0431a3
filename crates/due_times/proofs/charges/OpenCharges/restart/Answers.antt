use Rattle.std.proofs.lemmas.Grind.{common_steps}
use Rattle.std.proofs.Common.{rules, arith}
use Rattle.due_times.proofs.charges.OpenCharges.restart.Goals as goal

pub returns : goal.returns
returns c = search rules

pub invariant_of-self : goal.invariant_of-self
invariant_of-self c = grind (arith, common_steps)
