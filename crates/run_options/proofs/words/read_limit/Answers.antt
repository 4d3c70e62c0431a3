use Rattle.std.proofs.Common.{rules}
use Rattle.run_options.proofs.words.read_limit.Goals as goal

pub returns-clause-limit : goal.returns-clause-limit
returns-clause-limit c = search rules
