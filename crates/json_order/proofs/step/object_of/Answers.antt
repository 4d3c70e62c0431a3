use Rattle.json_order.proofs.Trees.{object_seen}
use Rattle.json_order.proofs.step.object_of.Goals as goal

pub returns : goal.returns
returns c = object_seen c.args.list
