use Rattle.std.proofs.Common.{length, get_or, ap, sym, subst, arith}
use Rattle.std.proofs.lemmas.List.{length_push, length-map, get_or-map}
use Rattle.call_book.specs.Book.{BookView}
use Rattle.call_book.specs.Playing.{PlayingView}
use Rattle.session.specs.Begun.{played_books}
use Rattle.session.proofs.CallerLemmas.{by_place_more}
use Rattle.dl_session.specs.private.PlayedBooks.{IsNamedBook}
use Rattle.dl_session.proofs.PlayedRuns.{named_zip, section_at, legal_at}
use Rattle.dl_session.proofs.played_books.names_in_books.Goals as goal

pub names_in_book-requires-clause-section : goal.names_in_book-requires-clause-section
names_in_book-requires-clause-section c = section_at c.args.books.now c.loop-place.place c.index-books-place.result c.requires c.loop-place-test.true c.index-books-place.is

pub names_in_book-requires-clause-legal : goal.names_in_book-requires-clause-legal
names_in_book-requires-clause-legal c = legal_at c.args.books.now c.loop-place.place c.index-books-place.result c.requires c.loop-place-test.true c.index-books-place.is

pub loop-place-preserved : goal.loop-place-preserved
loop-place-preserved c =
    let inv = c.loop-place.invariant in
    let books = c.args.books.now in
    let names = c.in_ok-names_in_book.field-0 in
    let bs = played_books books in
    let is : (b : BookView) → IsNamedBook (get_or bs c.loop-place.place b) names = λ b.
    let at = get_or-map (λ (p : PlayingView). p.book) books c.loop-place.place c.index-books-place.result b c.loop-place-test.true in
    subst (λ (x : BookView). IsNamedBook x names) (sym at) (subst (λ (p : PlayingView). IsNamedBook p.book names) c.index-books-place.is c.in_ok-names_in_book.ensures) in
    let items = c.push_reserved.ensures.items in
    let more = ap length items in
    record {
      count = omega (arith, more, inv.count, length_push c.loop-place.all.items names);
      room = omega (arith, inv.room, c.push_reserved.ensures.capacity);
      named = rw items (by_place_more (λ d n. (b : BookView) → IsNamedBook (get_or bs d b) n) c.loop-place.all.items names inv.named (subst (λ d. (b : BookView) → IsNamedBook (get_or bs d b) names) (sym inv.count) is));
    }

pub returns : goal.returns
returns c =
    let inv = c.loop-place.invariant in
    named_zip (played_books c.args.books.now) c.loop-place.all.items (omega (arith, inv.count, c.loop-place-test.false, length-map c.args.books.now (λ (p : PlayingView). p.book))) inv.named
