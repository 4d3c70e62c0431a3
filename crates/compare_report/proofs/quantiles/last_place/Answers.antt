use Rattle.std.proofs.Common.{rules}
use Rattle.compare_report.proofs.quantiles.last_place.Goals as goal

pub returns-clause-least : goal.returns-clause-least
returns-clause-least c = search rules
