use Rattle.std.proofs.Common.{◌<◌, length, take, drop, sym, ap, ◌∙◌, arith}
use Rattle.std.proofs.lemmas.Grind.{common_steps}
use Rattle.session.proofs.Moved.{passes_up, passes_down}
use Rattle.session.proofs.moving.move_both.Goals as goal

pub returns-then-this-clause-moved : goal.returns-then-this-clause-moved
returns-then-this-clause-moved g c =
    let cut = c.split_at_mut-low in
    let items = c.deref_mut.ensures.value in
    passes_up g.N.Names.id g.row.D g.row.E c.args.passes.now.items cut.result.0.now cut.result.1.now c.args.passes.now.len c.index-low.result c.index-high-0.result
    c.move_to.new.from_pass c.move_to.new.to_pass c.args.prepared c.args.ticket c.move_to.result.1 c.move_to.result.0
    c.if-this.true (omega (arith, c.requires.to, c.requires.passes.count)) (sym c.deref_mut.ensures.len ∙ ap length items)
    (cut.ensures.front ∙ ap (take g.row.E) items) (cut.ensures.back ∙ ap (drop g.row.E) items)
    c.move_to.ensures.answered

pub returns-else-this-clause-moved : goal.returns-else-this-clause-moved
returns-else-this-clause-moved g c =
    let cut = c.split_at_mut-low-else-this in
    let items = c.deref_mut-else-this.ensures.value in
    let less : g.row.E < g.row.D = omega (arith, c.if-this.false, c.requires.apart) in
    passes_down g.N.Names.id g.row.D g.row.E c.args.passes.now.items cut.result.0.now cut.result.1.now c.args.passes.now.len c.index-high-0-else-this.result c.index-low-else-this.result
    c.move_to-else-this.new.from_pass c.move_to-else-this.new.to_pass c.args.prepared c.args.ticket c.move_to-else-this.result.1 c.move_to-else-this.result.0
    less (omega (arith, c.requires.from, c.requires.passes.count)) (sym c.deref_mut-else-this.ensures.len ∙ ap length items)
    (cut.ensures.front ∙ ap (take g.row.D) items) (cut.ensures.back ∙ ap (drop g.row.D) items)
    c.move_to-else-this.ensures.answered

pub returns-then-this-clause-own : goal.returns-then-this-clause-own
returns-then-this-clause-own g c = grind (arith, common_steps)

pub returns-else-this-clause-own : goal.returns-else-this-clause-own
returns-else-this-clause-own g c = grind (arith, common_steps)
