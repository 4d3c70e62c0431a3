use Rattle.std.proofs.Common.{rules}
use Rattle.task_script.proofs.name.Name.as_str.Goals as goal

pub returns-clause-text : goal.returns-clause-text
returns-clause-text c = search rules

pub returns-clause-name : goal.returns-clause-name
returns-clause-name c = search rules
