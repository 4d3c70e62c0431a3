use Rattle.std.proofs.Common.{refl}
use Rattle.command_line.proofs.command.import_choices.Goals as goal

pub returns-clause-texts : goal.returns-clause-texts
returns-clause-texts c = refl

pub returns-clause-rules : goal.returns-clause-rules
returns-clause-rules c = refl
