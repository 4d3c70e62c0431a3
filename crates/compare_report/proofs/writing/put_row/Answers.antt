use Rattle.std.proofs.Common.{arith}
use Rattle.std.proofs.lemmas.Grind.{common_steps}
use Rattle.compare_report.proofs.writing.put_row.Goals as goal

pub returns : goal.returns
returns c = grind (arith, common_steps)
