use Rattle.std.proofs.Common.{arith}
use Rattle.std.proofs.lemmas.Grind.{common_steps}
use Rattle.due_times.proofs.Carrying.{beside_within, least_of_group}
use Rattle.due_times.proofs.timer_tree.least_beside.Goals as goal

pub bounds-nodes-at : goal.bounds-nodes-at
bounds-nodes-at c = beside_within c.args.nodes.now c.args.at 2 c.requires.fours c.requires.there (omega arith)

pub bounds-nodes-at-2 : goal.bounds-nodes-at-2
bounds-nodes-at-2 c = beside_within c.args.nodes.now c.args.at 3 c.requires.fours c.requires.there (omega arith)

pub bounds-nodes-at-3 : goal.bounds-nodes-at-3
bounds-nodes-at-3 c = beside_within c.args.nodes.now c.args.at 1 c.requires.fours c.requires.there (omega arith)

pub returns : goal.returns
returns c =
    let group = least_of_group c.args.nodes.now c.args.at c.args.time c.requires.time in
    cc (group, c.min-others.ensures, c.min.ensures, c.min-2.ensures)

pub offset_bounds-nodes-at : goal.offset_bounds-nodes-at
offset_bounds-nodes-at c = grind (arith, common_steps)

pub offset_bounds-nodes-at-2 : goal.offset_bounds-nodes-at-2
offset_bounds-nodes-at-2 c = grind (arith, common_steps)

pub offset_bounds-nodes-at-3 : goal.offset_bounds-nodes-at-3
offset_bounds-nodes-at-3 c = grind (arith, common_steps)
