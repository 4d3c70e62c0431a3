use Rattle.std.proofs.Common.{◌/◌, length, sym, subst, arith}
use Rattle.due_times.specs.private.TimerTree.{IsOnWay}
use Rattle.due_times.proofs.Descending.{from_root, most_1024, size_width, level_below, width_below, way_within, way_ended}
use Rattle.due_times.proofs.timer_tree.first_come.Goals as goal

pub loop-span-init : goal.loop-span-init
loop-span-init c =
    let ns = c.args.nodes.now in
    let width = size_width (length ns / 2) c.requires.size in
    record {
      width = width;
      way = subst (λ n. IsOnWay ns c.args.time 1 n) (sym width.is) (from_root ns c.args.time width.level c.requires.tree c.requires.size width.is (omega (arith, c.type_inv.nodes 1)) c.requires.come);
    }

pub loop-span-preserved : goal.loop-span-preserved
loop-span-preserved c =
    let i = c.loop-span.invariant in
    let above = level_below c.loop-span.span i.width c.loop-span-test.true in
    record {
      width = width_below c.loop-span.span i.width c.loop-span-test.true;
      way = subst (λ n. IsOnWay c.args.nodes.now c.args.time c.below-at.result n) (sym above.next)
          (c.below-at.ensures.down above.level (subst (λ n. IsOnWay c.args.nodes.now c.args.time c.loop-span.at n) above.wide i.way));
    }

pub below-at-requires-clause-within : goal.below-at-requires-clause-within
below-at-requires-clause-within c = way_within c.args.nodes.now c.args.time c.loop-span.at c.loop-span.span c.requires.tree c.loop-span.invariant.width c.loop-span-test.true c.loop-span.invariant.way

pub below-at-requires-clause-few : goal.below-at-requires-clause-few
below-at-requires-clause-few c = omega (arith, most_1024 (length c.args.nodes.now / 2) c.requires.size, c.requires.tree.fours)

pub returns-clause-way : goal.returns-clause-way
returns-clause-way c = way_ended c.args.nodes.now c.args.time c.loop-span.at c.loop-span.span c.loop-span.invariant.width c.loop-span-test.false c.loop-span.invariant.way

pub returns-clause-high : goal.returns-clause-high
returns-clause-high c = λ node. omega (arith, c.type_inv.nodes node)
