use Rattle.std.proofs.Common.{arith}
use Rattle.std.proofs.lemmas.Grind.{common_steps}
use Rattle.calls_trace.proofs.kept.CallsLeft.next.Goals as goal

pub invariant_of-self : goal.invariant_of-self
invariant_of-self c = grind (arith, common_steps)

pub returns-in-Some-Wake-clause-next : goal.returns-in-Some-Wake-clause-next
returns-in-Some-Wake-clause-next c = grind (arith, common_steps)

pub returns-in-Some-Wake-clause-text : goal.returns-in-Some-Wake-clause-text
returns-in-Some-Wake-clause-text c = grind (arith, common_steps)

pub returns-in-Some-Leave-clause-next : goal.returns-in-Some-Leave-clause-next
returns-in-Some-Leave-clause-next c = grind (arith, common_steps)

pub returns-in-Some-Leave-clause-text : goal.returns-in-Some-Leave-clause-text
returns-in-Some-Leave-clause-text c = grind (arith, common_steps)

pub returns-in-Some-Depart-clause-next : goal.returns-in-Some-Depart-clause-next
returns-in-Some-Depart-clause-next c = grind (arith, common_steps)

pub returns-in-Some-Depart-clause-text : goal.returns-in-Some-Depart-clause-text
returns-in-Some-Depart-clause-text c = grind (arith, common_steps)

pub returns-in-Some-Advance-clause-next : goal.returns-in-Some-Advance-clause-next
returns-in-Some-Advance-clause-next c = grind (arith, common_steps)

pub returns-in-Some-Advance-clause-text : goal.returns-in-Some-Advance-clause-text
returns-in-Some-Advance-clause-text c = grind (arith, common_steps)

pub invariant_of-self-in-Some-Leave : goal.invariant_of-self-in-Some-Leave
invariant_of-self-in-Some-Leave c = grind (arith, common_steps)

pub invariant_of-self-in-Some-Depart : goal.invariant_of-self-in-Some-Depart
invariant_of-self-in-Some-Depart c = grind (arith, common_steps)

pub invariant_of-self-in-Some-Advance : goal.invariant_of-self-in-Some-Advance
invariant_of-self-in-Some-Advance c = grind (arith, common_steps)

pub invariant_of-self-in-Some : goal.invariant_of-self-in-Some
invariant_of-self-in-Some c = grind (arith, common_steps)

pub returns-in-Some-clause-next : goal.returns-in-Some-clause-next
returns-in-Some-clause-next c = grind (arith, common_steps)

pub returns-in-Some-clause-text : goal.returns-in-Some-clause-text
returns-in-Some-clause-text c = grind (arith, common_steps)

pub invariant_of-self-in-Some-Long : goal.invariant_of-self-in-Some-Long
invariant_of-self-in-Some-Long c = grind (arith, common_steps)

pub returns-in-Some-Long-clause-next : goal.returns-in-Some-Long-clause-next
returns-in-Some-Long-clause-next c = grind (arith, common_steps)

pub returns-in-Some-Long-clause-text : goal.returns-in-Some-Long-clause-text
returns-in-Some-Long-clause-text c = grind (arith, common_steps)

pub invariant_of-self-in-None : goal.invariant_of-self-in-None
invariant_of-self-in-None c = grind (arith, common_steps)

pub returns-clause-next : goal.returns-clause-next
returns-clause-next c = grind (arith, common_steps)

pub returns-clause-text : goal.returns-clause-text
returns-clause-text c = grind (arith, common_steps)
