use Rattle.std.proofs.Common.{◌<◌, length, Some, sym, refl, ap, ◌∙◌, arith}
use Rattle.session.specs.Asks.{ClientView}
use Rattle.session.proofs.Moved.{move_makes, move_kept}
use Rattle.session.proofs.client.Client.move_locked.Goals as goal

pub returns : goal.returns
returns g c =
    let ps = c.self.inside.passes.items in
    let from_in : g.row.D < length ps = omega (arith, c.requires.from, c.self.invariant.count) in
    let to_in : g.row.E < length ps = omega (arith, c.requires.to, c.self.invariant.count) in
    move_makes g.N.Names.id g.row.D g.row.E c.args.self.now _ ps c.move_both-answer.new.passes.items c.args.prepared c.args.ticket c.move_both-answer.result.1 c.move_both-answer.result.0
    (sym (ap (λ (v : ClientView). v.passes) c.self.view_is)) refl (ap (λ (v : ClientView). v.number) c.self.view_is) refl c.requires.apart from_in to_in
    (λ d x inside. (c.self.invariant.each d x inside).owner ∙ ap (λ (v : ClientView). v.number) c.self.view_is)
    c.move_both-answer.ensures.moved

pub invariant_of-self : goal.invariant_of-self
invariant_of-self g c =
    let ps = c.self.inside.passes.items in
    let from_in : g.row.D < length ps = omega (arith, c.requires.from, c.self.invariant.count) in
    let to_in : g.row.E < length ps = omega (arith, c.requires.to, c.self.invariant.count) in
    move_kept g.N.Names.id c.self.inside.number g.row.D g.row.E ps c.move_both-answer.new.passes.items c.self.inside.hand (Some c.move_both-answer.result.1) c.args.prepared c.args.ticket c.move_both-answer.result.1 c.move_both-answer.result.0
    c.self.invariant c.move_both-answer.ensures.own c.requires.apart from_in to_in c.move_both-answer.ensures.moved
