use Rattle.std.proofs.Common.{rules}
use Rattle.task_script.proofs.script.Script.new.Goals as goal

pub invariant_of-result : goal.invariant_of-result
invariant_of-result c = search rules

pub returns-in-Some-clause-within : goal.returns-in-Some-clause-within
returns-in-Some-clause-within c = search rules

pub returns-in_default-clause-within : goal.returns-in_default-clause-within
returns-in_default-clause-within c = search rules
