use Rattle.std.proofs.Common.{◌≡◌, ◌<◌, ◌+◌, ◌∙◌, List, get_or, length, set, refl, sym, ap, subst, arith}
use Rattle.std.proofs.lemmas.List.{get_or-map, length-map, set-get_or}
use Rattle.call_book.specs.Book.{BookView}
use Rattle.call_book.specs.Playing.{PlayingView}
use Rattle.session.specs.Asks.{ClientView}
use Rattle.session.specs.Begun.{played_books, section_of}
use Rattle.session.specs.Report.{IsHistoryOf}
use Rattle.session.specs.private.Entering.{IsSessionBook}
use Rattle.session.proofs.Begun.{histories_more, played_at}
use Rattle.session.proofs.begun_run.agree_with_all.Goals as goal

-- the book of a place
abbrev book : PlayingView → BookView
book p = p.book

pub agree_with-requires-clause-named : goal.agree_with-requires-clause-named
agree_with-requires-clause-named g c =
    let inv = c.loop-place.invariant in
    let books = c.args.books.now.items in
    let n = c.loop-place.place in
    let p = c.index_mut.result.now in
    let inside : n < length books = omega (arith, c.loop-place-test.true, c.len-place-end.ensures, c.args.books.now.ok.0) in
    let there : n < length (played_books books) = omega (arith, inside, length-map books book) in
    subst (IsSessionBook g.N.Names.id n) (played_at books n p inside (c.index_mut.ensures.value ∙ ap (λ (ps : List PlayingView). get_or ps n p) inv.books)) (c.requires.named n p.book there)

pub loop-place-preserved : goal.loop-place-preserved
loop-place-preserved g c =
    let id = g.N.Names.id in
    let inv = c.loop-place.invariant in
    let now = c.loop-place.books.items in
    let books = c.args.books.now.items in
    let clients = c.args.clients.now.items in
    let n = c.loop-place.place in
    let p = c.index_mut.result.now in
    let value = c.index_mut.ensures.value in
    let logged = c.agree_with.ensures in
    let inside : n < length books = omega (arith, c.loop-place-test.true, c.len-place-end.ensures, c.args.books.now.ok.0) in
    let same : c.agree_with.new.clients.items ≡ clients = logged.clients ∙ inv.clients in
    let at : p ≡ get_or books n p = value ∙ ap (λ (ps : List PlayingView). get_or ps n p) inv.books in
    record {
      books = ap (λ (x : PlayingView). set now n x) (logged.book ∙ value) ∙ set-get_or now n p ∙ inv.books;
      clients = same;
      histories = histories_more n (n + 1) id clients (played_books books) refl inv.histories (λ x.
          let there : c.agree_with.new.book.book ≡ get_or (played_books books) n x = ap book (logged.book ∙ at) ∙ sym (get_or-map book books n p x inside) in
          subst (λ (b : BookView). IsHistoryOf id n clients (section_of b)) there (subst (λ (cs : List ClientView). IsHistoryOf id n cs (section_of c.agree_with.new.book.book)) same logged.history));
    }
