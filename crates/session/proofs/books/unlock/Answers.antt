use Rattle.std.proofs.Common.{◌≡◌, ℕ, List, length, sym, subst, arith}
use Rattle.call_book.specs.Book.{BookView}
use Rattle.session.specs.private.Entering.{IsSessionBook}
use Rattle.session.specs.private.Parts.{AreSessionBooks}
use Rattle.session.proofs.Closed.{named_more}
use Rattle.session.proofs.books.unlock.Goals as goal

pub returns-in-Some-clause-named : goal.returns-in-Some-clause-named
returns-in-Some-clause-named g c =
    let id = g.N.Names.id in
    let at : g.row.D ≡ length c.args.books.now.items = omega (arith, c.requires.before, c.into_inner-domain.result.named.place) in
    let boxed = c.into_inner-domain.result in
    let here = subst (λ (b : BookView). IsSessionBook id g.row.D b) (sym c.into_inner.ensures) boxed.named in
    let b = c.into_inner.result in
    subst (λ (bs : List BookView). AreSessionBooks id bs) (sym c.push_reserved.ensures.items)
    (named_more id c.args.books.now.items b c.requires.named (subst (λ (d : ℕ). IsSessionBook id d b) at here))
