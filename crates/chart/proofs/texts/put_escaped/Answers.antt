use Rattle.std.proofs.lemmas.Grind.{common_steps}
use Rattle.std.proofs.Common.{arith}
use Rattle.chart.proofs.Escaping.{text_plain}
use Rattle.chart.proofs.texts.put_escaped.Goals as goal

pub returns-clause-plain : goal.returns-clause-plain
returns-clause-plain c = text_plain c.args.text.now

pub loop-byte-preserved : goal.loop-byte-preserved
loop-byte-preserved c = grind (arith, common_steps)
