use Rattle.std.proofs.Common.{◌≡◌, ◌<◌, length, get_or, sym, ap, subst, ◌∙◌, arith}
use Rattle.std.specs.Prelude.{IfOk, IfErr}
use Rattle.call_book.specs.MoveAnswers.{moving_as}
use Rattle.session.specs.Seen.{ClientPart}
use Rattle.session.specs.Asks.{ClientView, part_in}
use Rattle.session.specs.Moves.{WasListed}
use Rattle.session.specs.private.Entering.{part_with}
use Rattle.session.specs.private.Moving.{IsUnpreparedAt}
use Rattle.session.proofs.Sighted.{part_at}
use Rattle.session.proofs.client.Client.prepare_here.Goals as goal

pub returns-clause-listed : goal.returns-clause-listed
returns-clause-listed g c =
    let ps = c.self.inside.passes.items in
    let p = c.index_mut.result.now in
    let inside : g.row.D < length ps = omega (arith, c.requires.place, c.self.invariant.count) in
    let owner : (get_or ps g.row.D p).client ≡ c.args.self.now.number = (c.self.invariant.each g.row.D p inside).owner ∙ ap (λ (v : ClientView). v.number) c.self.view_is in
    let part : part_with p ≡ part_in c.args.self.now g.row.D = part_at c.args.self.now ps g.row.D p (sym (ap (λ (v : ClientView). v.passes) c.self.view_is)) inside c.index_mut.ensures.value owner in
    subst (λ (x : ClientPart). IfOk c.prepare.result (λ a. WasListed g.N.Names.id g.row.D c.args.number x (moving_as a))) part c.prepare.ensures.listed

pub returns-clause-fault : goal.returns-clause-fault
returns-clause-fault g c =
    let ps = c.self.inside.passes.items in
    let p = c.index_mut.result.now in
    let inside : g.row.D < length ps = omega (arith, c.requires.place, c.self.invariant.count) in
    let owner : (get_or ps g.row.D p).client ≡ c.args.self.now.number = (c.self.invariant.each g.row.D p inside).owner ∙ ap (λ (v : ClientView). v.number) c.self.view_is in
    let part : part_with p ≡ part_in c.args.self.now g.row.D = part_at c.args.self.now ps g.row.D p (sym (ap (λ (v : ClientView). v.passes) c.self.view_is)) inside c.index_mut.ensures.value owner in
    subst (λ (x : ClientPart). IfErr c.prepare.result (IsUnpreparedAt g.N.Names.id g.row.D c.args.number x)) part c.prepare.ensures.fault
