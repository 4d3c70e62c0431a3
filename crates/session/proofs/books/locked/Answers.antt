use Rattle.std.proofs.Common.{◌≡◌, length, sym, subst, arith}
use Rattle.call_book.specs.Book.{BookView}
use Rattle.session.specs.private.Entering.{IsSessionBook}
use Rattle.session.proofs.Opening.{one_more, last_named, front_named}
use Rattle.session.proofs.books.locked.Goals as goal

pub invariant_of-new : goal.invariant_of-new
invariant_of-new g c =
    let id = g.N.Names.id in
    let books = c.args.books.now in
    let left = c.pop.new.self.items in
    let b = c.in_ok-book.book in
    let items = c.in_ok-book.ensures.items in
    let count : length left ≡ g.row.D = omega (arith, one_more books.items left b items, c.len.ensures, books.ok.0, c.requires.count) in
    record { named = subst (λ (v : BookView). IsSessionBook id g.row.D v) (sym c.book.view_is) (last_named id books.items left b g.row.D items count c.requires.named) }

pub returns-clause-named : goal.returns-clause-named
returns-clause-named g c =
    front_named g.N.Names.id c.args.books.now.items c.pop.new.self.items c.in_ok-book.book c.in_ok-book.ensures.items c.requires.named
