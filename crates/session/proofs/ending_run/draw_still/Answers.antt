use Rattle.std.proofs.Common.{◌≡◌, ℕ, ◌<◌, ◌+◌, ◌∙◌, List, [], ◌∷◌, ◌++◌, true, false, get_or, length, set, sym, refl, ap, subst, arith}
use Rattle.std.specs.Prelude.{All}
use Rattle.std.proofs.lemmas.Grind.{common_steps}
use Rattle.std.proofs.lemmas.List.{get_or-map, length-map, length-set, length_push}
use Rattle.std.proofs.lemmas.List.Elements.{All-push}
use Rattle.std.proofs.Math.Seq.{map-set_same}
use Rattle.chart_pieces.specs.Drawing.{DrawingView}
use Rattle.call_book.specs.Book.{BookView}
use Rattle.call_book.specs.Ending.{EndingView}
use Rattle.session.specs.private.Ending.{IsStreamedOf, books_of}
use Rattle.session.proofs.Advanced.{FirstStreamed, as_many, drawn_still, first_more, given_to, rest_less}
use Rattle.session.proofs.ending_run.draw_still.Goals as goal

-- the book of a book at its end
abbrev book : EndingView → BookView
book e = e.book

pub loop-place-preserved : goal.loop-place-preserved
loop-place-preserved c =
    let inv = c.loop-place.invariant in
    let books = c.loop-place.books.items in
    let n = c.loop-place.place in
    let was = c.index_mut.result.now in
    let b = c.draw.new.self in
    let done = c.in_ok-draw.ensures in
    let one = c.in_ok-draw.field-0 in
    let ds = c.loop-place.drawn.items in
    let items = c.push_reserved.ensures.items in
    let inside : n < length books = omega (arith, c.loop-place-test.true, inv.count, c.len-place-end.ensures, c.args.books.now.ok.0) in
    let there : n < length (books_of books) = omega (arith, inside, length-map books book) in
    let same : books_of (set books n b) ≡ books_of books = map-set_same book books n b was (ap book done.ok ∙ ap book c.index_mut.ensures.value) in
    let at : (y : BookView) → get_or (books_of books) n y ≡ was.book = λ y. get_or-map book books n was y inside ∙ ap book (sym c.index_mut.ensures.value) in
    record {
      books = same ∙ inv.books;
      count = length-set books n b ∙ inv.count;
      first = first_more true n (n + 1) books b inside refl inv.first (ap (λ (e : EndingView). e.streamed) done.ok);
      rest = rest_less false n (n + 1) books b refl inv.rest;
      many = ap (λ (xs : List DrawingView). length xs) items ∙ length_push ds one ∙ ap (λ (k : ℕ). k + 1) inv.many;
      drawn = subst (λ (xs : List DrawingView). FirstStreamed (n + 1) 0 (books_of (set books n b)) (given_to xs)) (sym items)
          (subst (λ (bs : List BookView). FirstStreamed (n + 1) 0 bs (given_to (ds ++ one ∷ []))) (sym same)
          (drawn_still n (n + 1) 0 (books_of books) ds one there inv.many refl inv.drawn (λ y. subst (λ (v : BookView). IsStreamedOf 0 v one.streamed) (sym (at y)) done.drawn)));
      same_window = subst (λ (xs : List DrawingView). All (λ (d : DrawingView). d.window ≡ c.args.window) xs) (sym items)
          (All-push (λ (d : DrawingView). d.window ≡ c.args.window) ds one inv.same_window done.window);
      room = omega (arith, inv.room, c.push_reserved.ensures.capacity);
    }

pub loop-place-init : goal.loop-place-init
loop-place-init c = grind (arith, common_steps)

pub returns-clause-books : goal.returns-clause-books
returns-clause-books c = grind (arith, common_steps)

pub returns-clause-forgotten : goal.returns-clause-forgotten
returns-clause-forgotten c = grind (arith, common_steps)

pub returns-clause-drawn : goal.returns-clause-drawn
returns-clause-drawn c =
    let inv = c.loop-place.invariant in
    let books = c.loop-place.books.items in
    record {
      same_window = inv.same_window;
      drawn = record {
        count = omega (arith, inv.many, inv.count, as_many c.loop-place.drawn.items, length-map books book, c.loop-place-test.false, c.len-place-end.ensures, c.args.books.now.ok.0);
        each = λ d b x inside. inv.drawn d b x (omega (arith, inside, inv.count, length-map books book, c.loop-place-test.false, c.len-place-end.ensures, c.args.books.now.ok.0));
      };
    }
