use Rattle.std.proofs.Common.{rules}
use Rattle.chart_pieces.proofs.marks.push_gap.Goals as goal

pub returns-in_ok-push : goal.returns-in_ok-push
returns-in_ok-push c = search rules
