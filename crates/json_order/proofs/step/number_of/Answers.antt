use Rattle.json_order.specs.declared.lent.LentText.TheVariants.{Copied}
use Rattle.json_order.proofs.Trees.{number_seen}
use Rattle.json_order.proofs.step.number_of.Goals as goal

pub returns : goal.returns
returns c = number_seen (Copied c.args.text)
