use Rattle.due_times.proofs.Descending.{way_down}
use Rattle.due_times.proofs.timer_tree.below.Goals as goal

pub returns-clause-down : goal.returns-clause-down
returns-clause-down c = λ level way. way_down c.args.nodes.now c.args.time c.args.at c.passed.result level c.requires.tree c.passed.ensures way
