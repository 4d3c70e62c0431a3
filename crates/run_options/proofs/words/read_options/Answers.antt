use Rattle.std.proofs.Common.{rules}
use Rattle.run_options.proofs.words.read_options.Goals as goal

pub returns-clause-meant : goal.returns-clause-meant
returns-clause-meant c = search rules
