use Rattle.json_order.specs.declared.lent.LentText.TheVariants.{Copied}
use Rattle.json_order.proofs.Trees.{text_seen}
use Rattle.json_order.proofs.step.string_of.Goals as goal

pub returns : goal.returns
returns c = text_seen (Copied c.args.text)
