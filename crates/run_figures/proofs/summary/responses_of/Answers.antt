use Rattle.std.proofs.Common.{rules}
use Rattle.run_figures.proofs.summary.responses_of.Goals as goal

pub returns : goal.returns
returns c = search rules
