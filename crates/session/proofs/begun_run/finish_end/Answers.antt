use Rattle.std.proofs.Common.{◌≡◌, ◌∙◌, List, length, map, sym, ap, subst, arith}
use Rattle.std.proofs.lemmas.List.{length-map}
use Rattle.call_book.specs.Book.{BookView}
use Rattle.call_book.specs.Ending.{EndingView}
use Rattle.call_book.specs.Playing.{PlayingView}
use Rattle.session.specs.Begun.{UnderWayView, played_books}
use Rattle.session.specs.private.Begun.{without_pieces}
use Rattle.session.specs.private.Ending.{books_of}
use Rattle.session.specs.private.Parts.{AreSessionBooks}
use Rattle.session.proofs.Begun.{played_gates, length_pieces, named_alike, histories_left}
use Rattle.session.proofs.begun_run.finish_end.Goals as goal

pub finish_all-requires-clause-gate : goal.finish_all-requires-clause-gate
finish_all-requires-clause-gate g c =
    let id = g.N.Names.id in
    let own = c.rest.inside in
    let named = subst (AreSessionBooks id) (ap (λ (u : UnderWayView). u.books) c.rest.view_is ∙ sym c.requires.same) own.named in
    played_gates id own.gate c.args.books.items own.same_gate named

pub invariant_of-ending : goal.invariant_of-ending
invariant_of-ending g c =
    let id = g.N.Names.id in
    let own = c.rest.inside in
    let books = c.args.books.items in
    let ending = c.finish_all.new.ending.items in
    let begun = own.begun.value.items in
    let f : PlayingView → BookView = λ p. p.book in
    let h : EndingView → BookView = λ e. e.book in
    let same : played_books begun ≡ played_books books = ap (λ (u : UnderWayView). u.books) c.rest.view_is ∙ sym c.requires.same in
    let many = ap (λ (bs : List BookView). length bs) same in
    record {
      session = own.session;
      same_limit = own.same_limit;
      same_gate = own.same_gate;
      count = omega (arith, length_pieces (books_of ending) (played_books books) c.finish_all.ensures, length-map ending h, length-map begun f, many, own.count);
      named = named_alike id (books_of ending) (played_books books) c.finish_all.ensures (subst (AreSessionBooks id) same own.named);
      blanks_own = own.blanks_own;
      enough = own.enough;
    }

pub returns-clause-histories : goal.returns-clause-histories
returns-clause-histories g c =
    let id = g.N.Names.id in
    let own = c.rest.inside in
    let begun = own.begun.value.items in
    let f : PlayingView → BookView = λ p. p.book in
    let view : played_books begun ≡ c.args.rest.books = ap (λ (u : UnderWayView). u.books) c.rest.view_is in
    let many = ap (λ (bs : List BookView). length bs) view in
    histories_left id own.clients.items c.finish_all.new.ending.items c.args.rest.books c.close-report.result.report c.close-report.result.states.items
    (c.finish_all.ensures ∙ ap (map without_pieces) c.requires.same)
    (omega (arith, many, length-map begun f, own.count))
    (subst (AreSessionBooks id) view own.named) c.close-report.ensures.report c.close-report.ensures.ended
