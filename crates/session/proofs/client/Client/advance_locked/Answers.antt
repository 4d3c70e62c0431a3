use Rattle.std.proofs.Common.{◌≡◌, ◌<◌, length, get_or, sym, refl, ap, subst, ◌∙◌, arith}
use Rattle.pass_seats.specs.Lists.{PassView}
use Rattle.calls_text.specs.declared.section.Entry.{Entry}
use Rattle.session.specs.Seen.{ClientPart, RefusalWasSeen}
use Rattle.session.specs.Asks.{ClientView}
use Rattle.session.specs.private.Entering.{pass_after}
use Rattle.session.proofs.Asked.{makes_at, advanced_for}
use Rattle.session.proofs.Sighted.{part_at}
use Rattle.session.proofs.client.Client.advance_locked.Goals as goal

pub returns : goal.returns
returns g c =
    let ps = c.self.inside.passes.items in
    let p = c.index_mut.result.now in
    let q = c.advance.new.pass in
    let inside : g.row.D < length ps = omega (arith, c.requires.place, c.self.invariant.count) in
    let at : p ≡ get_or ps g.row.D p = c.index_mut.ensures.value in
    let owner : (get_or ps g.row.D p).client ≡ c.args.self.now.number = (c.self.invariant.each g.row.D p inside).owner ∙ ap (λ (v : ClientView). v.number) c.self.view_is in
    let passes = sym (ap (λ (v : ClientView). v.passes) c.self.view_is) in
    advanced_for g.N.Names.id g.row.D c.args.self.now _ p q c.args.ticks c.advance.result
    (subst (λ (x : ClientPart). RefusalWasSeen g.N.Names.id g.row.D x c.advance.result) (part_at c.args.self.now ps g.row.D p passes inside at owner) c.advance.ensures.seen)
    (λ call a becomes. makes_at c.args.self.now _ ps g.row.D p q call a (sym (ap (λ (v : ClientView). v.passes) c.self.view_is)) refl (ap (λ (v : ClientView). v.number) c.self.view_is) inside owner (subst (λ (r : PassView Entry). q ≡ pass_after r call a) at becomes))
    c.advance.ensures.made
    (ap (λ (v : ClientView). v.hand) c.self.view_is)
