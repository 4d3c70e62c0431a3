use Rattle.std.proofs.Common.{rules}
use Rattle.command_line.proofs.words.replay_of.Goals as goal

pub returns-in-Ok-clause-meant : goal.returns-in-Ok-clause-meant
returns-in-Ok-clause-meant c = search rules
