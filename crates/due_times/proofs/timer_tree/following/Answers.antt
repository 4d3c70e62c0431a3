use Rattle.std.proofs.Common.{arith}
use Rattle.std.proofs.lemmas.Grind.{common_steps}
use Rattle.due_times.proofs.Climbing.{covers_fours, climbs_low, climbs_high, climbs_short}
use Rattle.due_times.proofs.timer_tree.following.Goals as goal

pub loop-at-preserved : goal.loop-at-preserved
loop-at-preserved c =
    let i = c.loop-at.invariant in
    record {
      one = omega (arith, c.loop-at-test.true);
      short = climbs_short c.loop-at.at c.loop-at.span c.args.from c.loop-at-test.true i.low;
      low = climbs_low c.loop-at.at c.loop-at.span c.args.from i.low;
      high = climbs_high c.loop-at.at c.loop-at.span c.args.from i.high;
      later = c.if-nodes-at.true;
      covers = covers_fours c.args.nodes.now c.loop-at.span c.requires.tree i.covers;
    }

pub returns-clause-others : goal.returns-clause-others
returns-clause-others c = λ node from before within.
    let i = c.loop-at.invariant in
    let below = (i.covers c.loop-at.at i.one).each node (omega (arith, i.low, from)) before within in
    omega (arith, below, i.later)

pub loop-at-init : goal.loop-at-init
loop-at-init c = grind (arith, common_steps)

pub offset_bounds-nodes-at : goal.offset_bounds-nodes-at
offset_bounds-nodes-at c = grind (arith, common_steps)

pub bounds-nodes-at : goal.bounds-nodes-at
bounds-nodes-at c = grind (arith, common_steps)

pub overflow_add-result : goal.overflow_add-result
overflow_add-result c = grind (arith, common_steps)
