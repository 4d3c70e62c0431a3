use Rattle.std.proofs.Common.{◌≡◌, ℕ, ◌<◌, ◌+◌, ◌∙◌, List, [], ◌∷◌, ◌++◌, true, false, get_or, length, set, sym, refl, ap, subst, arith}
use Rattle.std.proofs.lemmas.Grind.{common_steps}
use Rattle.std.proofs.lemmas.List.{get_or-map, length-map, length-set, length_push}
use Rattle.std.proofs.Math.Seq.{map-set_same}
use Rattle.run_figures.specs.Accounting.{AccountingView}
use Rattle.call_book.specs.Book.{BookView}
use Rattle.call_book.specs.Ending.{EndingView}
use Rattle.session.specs.private.Ending.{IsStreamedOf, books_of}
use Rattle.session.proofs.Advanced.{FirstStreamed, first_more, streamed_still, rest_less}
use Rattle.session.proofs.ending_run.stream_still.Goals as goal

-- the book of a book at its end
abbrev book : EndingView → BookView
book e = e.book

pub loop-place-preserved : goal.loop-place-preserved
loop-place-preserved c =
    let inv = c.loop-place.invariant in
    let books = c.loop-place.books.items in
    let n = c.loop-place.place in
    let was = c.index_mut.result.now in
    let b = c.stream.new.self in
    let done = c.in_ok-stream.ensures in
    let a = c.in_ok-stream.field-0 in
    let streamed = c.push_reserved.ensures.items in
    let inside : n < length books = omega (arith, c.loop-place-test.true, inv.count, c.len-place-end.ensures, c.args.books.now.ok.0) in
    let there : n < length (books_of books) = omega (arith, inside, length-map books book) in
    let same : books_of (set books n b) ≡ books_of books = map-set_same book books n b was (ap book done.ok ∙ ap book c.index_mut.ensures.value) in
    let at : (y : BookView) → get_or (books_of books) n y ≡ was.book = λ y. get_or-map book books n was y inside ∙ ap book (sym c.index_mut.ensures.value) in
    record {
      books = same ∙ inv.books;
      count = length-set books n b ∙ inv.count;
      first = first_more true n (n + 1) books b inside refl inv.first (ap (λ (e : EndingView). e.streamed) done.ok);
      rest = rest_less false n (n + 1) books b refl inv.rest;
      many = ap (λ (hs : List AccountingView). length hs) streamed ∙ length_push c.loop-place.streamed.items a ∙ ap (λ (k : ℕ). k + 1) inv.many;
      streamed = subst (λ (hs : List AccountingView). FirstStreamed (n + 1) 0 (books_of (set books n b)) hs) (sym streamed)
          (subst (λ (bs : List BookView). FirstStreamed (n + 1) 0 bs (c.loop-place.streamed.items ++ a ∷ [])) (sym same)
          (streamed_still n (n + 1) 0 (books_of books) c.loop-place.streamed.items a there inv.many refl inv.streamed (λ y. subst (λ (v : BookView). IsStreamedOf 0 v a) (sym (at y)) done.all)));
      room = omega (arith, inv.room, c.push_reserved.ensures.capacity);
    }

pub loop-place-init : goal.loop-place-init
loop-place-init c = grind (arith, common_steps)

pub returns-clause-books : goal.returns-clause-books
returns-clause-books c = grind (arith, common_steps)

pub returns-clause-forgotten : goal.returns-clause-forgotten
returns-clause-forgotten c = grind (arith, common_steps)

pub returns-clause-streamed : goal.returns-clause-streamed
returns-clause-streamed c = grind (arith, common_steps)
