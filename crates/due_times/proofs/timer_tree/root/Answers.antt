use Rattle.std.proofs.Common.{arith}
use Rattle.due_times.proofs.Rooted.{rooted}
use Rattle.due_times.proofs.timer_tree.root.Goals as goal

pub returns : goal.returns
returns c = rooted c.args.nodes.now c.requires.tree c.requires.size (omega (arith, c.type_inv.nodes 1))
