use Rattle.std.proofs.Common.{◌≡◌, ℕ, ◌≤◌, ◌<◌, ◌+◌, ◌∙◌, List, [], ◌∷◌, ◌++◌, true, false, get_or, length, set, sym, refl, ap, subst, arith}
use Rattle.std.specs.Prelude.{All}
use Rattle.std.proofs.lemmas.Grind.{common_steps}
use Rattle.std.proofs.lemmas.List.{get_or-map, length-map, length-set, length_push, map-set}
use Rattle.std.proofs.lemmas.List.Elements.{All-push}
use Rattle.std.proofs.lemmas.Result.{err_from_is_err_and}
use Rattle.chart_pieces.specs.Drawing.{DrawingView}
use Rattle.call_book.specs.Book.{BookView, IsFull}
use Rattle.call_book.specs.Ending.{EndingView}
use Rattle.session.specs.private.Ending.{IsFullAmong, books_of}
use Rattle.session.specs.private.Entering.{IsSessionBook}
use Rattle.session.specs.private.Parts.{AreSessionBooks}
use Rattle.session.proofs.Advanced.{FirstEnd, FirstStreamed, as_many, drawn_more, given_to, makes_everywhere, makes_more, named_set, ends_by, ends_more, first_more, rest_less, stopped_so, full_among}
use Rattle.session.proofs.ending_run.draw_all.Goals as goal

-- the book of a place
abbrev book : EndingView → BookView
book e = e.book

-- with another book at a place
put : (books : List EndingView) (n : ℕ) (e : EndingView) → set (books_of books) n e.book ≡ books_of (set books n e)
put books n e = sym (map-set (λ (x : EndingView). x.book) books n e)

-- the book of a place among books at their end
book_at : (books : List EndingView) (n : ℕ) (e : EndingView) → n < length books → e ≡ get_or books n e → get_or (books_of books) n e.book ≡ e.book
book_at books n e inside is = get_or-map book books n e e.book inside ∙ ap book (sym is)

pub draw_book-requires-clause-named : goal.draw_book-requires-clause-named
draw_book-requires-clause-named g c =
    let inv = c.loop-place.invariant in
    let books = c.loop-place.books.items in
    let n = c.loop-place.place in
    let e = c.index_mut.result.now in
    let inside : n < length books = omega (arith, c.loop-place-test.true, inv.count, c.len-place-end.ensures, c.args.books.now.ok.0) in
    let there : n < length (books_of books) = omega (arith, inside, length-map books book) in
    subst (IsSessionBook g.N.Names.id n) (book_at books n e inside c.index_mut.ensures.value) (inv.named n e.book there)

pub returns-in_err-drawing-clause-named : goal.returns-in_err-drawing-clause-named
returns-in_err-drawing-clause-named g c =
    let id = g.N.Names.id in
    let inv = c.loop-place.invariant in
    let books = c.loop-place.books.items in
    let n = c.loop-place.place in
    let b = c.draw_book.new.book in
    let inside : n < length books = omega (arith, c.loop-place-test.true, inv.count, c.len-place-end.ensures, c.args.books.now.ok.0) in
    let there : n < length (books_of books) = omega (arith, inside, length-map books book) in
    subst (AreSessionBooks id) (put books n b) (named_set id (books_of books) n b.book there inv.named c.draw_book.ensures.named)

pub returns-in_err-drawing-clause-err : goal.returns-in_err-drawing-clause-err
returns-in_err-drawing-clause-err g c =
    let inv = c.loop-place.invariant in
    let logged = c.draw_book.ensures in
    let books = c.loop-place.books.items in
    let n = c.loop-place.place in
    let b = c.draw_book.new.book in
    let a = c.args.client.now in
    let now = c.draw_book.new.self in
    let inside : n < length books = omega (arith, c.loop-place-test.true, inv.count, c.len-place-end.ensures, c.args.books.now.ok.0) in
    let there : n < length (books_of books) = omega (arith, inside, length-map books book) in
    let place : n < length a.passes = omega (arith, inside, inv.count, c.requires.count, logged.domains, inv.made.domains) in
    let p = err_from_is_err_and c.from_residual.result c.from_residual.ensures.1 in
    rw (p.1, p.2) (stopped_so (IsFull b.book × (now ≡ c.loop-place.client)) (IsFullAmong c.args.duration (books_of (set books n b)) a now) c.in_err-drawing.field-0.0
    (λ met. subst (λ (bs : List BookView). IsFullAmong c.args.duration bs a now) (put books n b) (full_among n c.args.duration (books_of books) b.book a c.loop-place.client now there place c.requires.some inv.made met.0 met.1))
    c.in_err-drawing.ensures.err)

pub loop-place-preserved : goal.loop-place-preserved
loop-place-preserved g c =
    let id = g.N.Names.id in
    let inv = c.loop-place.invariant in
    let logged = c.draw_book.ensures in
    let done = c.in_ok-drawing.ensures in
    let books = c.loop-place.books.items in
    let n = c.loop-place.place in
    let b = c.draw_book.new.book in
    let inside : n < length books = omega (arith, c.loop-place-test.true, inv.count, c.len-place-end.ensures, c.args.books.now.ok.0) in
    let there : n < length (books_of books) = omega (arith, inside, length-map books (λ (x : EndingView). x.book)) in
    let first : c.loop-place.client.number ≡ 1 = inv.made.number ∙ c.requires.first in
    let items = c.push_reserved.ensures.items in
    let ds = c.loop-place.drawn.items in
    let one = c.in_ok-drawing.drawing in
    record {
      named = subst (AreSessionBooks id) (put books n b) (named_set id (books_of books) n b.book there inv.named logged.named);
      count = length-set books n b ∙ inv.count;
      domains = λ some. sym inv.made.domains ∙ logged.domains;
      made = makes_more n (n + 1) c.args.duration c.args.client.now c.loop-place.client c.draw_book.new.self refl inv.made done.made;
      ends = subst (FirstEnd (n + 1) c.args.duration) (put books n b) (ends_more n (n + 1) c.args.duration (books_of books) b.book there refl inv.ends (ends_by c.args.duration c.loop-place.client.number b.book.history first done.ends));
      first = first_more true n (n + 1) books b inside refl inv.first done.forgotten;
      rest = rest_less false n (n + 1) books b refl inv.rest;
      many = ap (λ (xs : List DrawingView). length xs) items ∙ length_push ds one ∙ ap (λ (k : ℕ). k + 1) inv.many;
      drawn = subst (λ (xs : List DrawingView). FirstStreamed (n + 1) c.args.duration (books_of (set books n b)) (given_to xs)) (sym items)
          (subst (λ (bs : List BookView). FirstStreamed (n + 1) c.args.duration bs (given_to (ds ++ one ∷ []))) (put books n b)
          (drawn_more n (n + 1) c.args.duration (books_of books) b.book ds one there inv.many refl inv.drawn done.drawn));
      same_window = subst (λ (xs : List DrawingView). All (λ (d : DrawingView). d.window ≡ c.args.window) xs) (sym items)
          (All-push (λ (d : DrawingView). d.window ≡ c.args.window) ds one inv.same_window done.window);
      room = omega (arith, inv.room, c.push_reserved.ensures.capacity);
    }

pub returns-clause-made : goal.returns-clause-made
returns-clause-made g c =
    let inv = c.loop-place.invariant in
    let all : length g.N.Names.id.cpu_sets ≤ c.loop-place.place = omega (arith, c.requires.count, c.loop-place-test.false, c.len-place-end.ensures, c.args.books.now.ok.0) in
    let count = inv.domains (omega (arith, all, c.requires.domains)) in
    makes_everywhere c.args.duration c.loop-place.place c.args.client.now c.loop-place.client c.requires.some (omega (arith, count, all)) inv.made

pub loop-place-init : goal.loop-place-init
loop-place-init g c = grind (arith, common_steps)

pub draw_book-requires-clause-undrawn : goal.draw_book-requires-clause-undrawn
draw_book-requires-clause-undrawn g c = grind (arith, common_steps)

pub returns-clause-drawn : goal.returns-clause-drawn
returns-clause-drawn g c =
    let inv = c.loop-place.invariant in
    let books = c.loop-place.books.items in
    record {
      same_window = inv.same_window;
      drawn = record {
        count = omega (arith, inv.many, inv.count, as_many c.loop-place.drawn.items, length-map books book, c.loop-place-test.false, c.len-place-end.ensures, c.args.books.now.ok.0);
        each = λ d b x inside. inv.drawn d b x (omega (arith, inside, inv.count, length-map books book, c.loop-place-test.false, c.len-place-end.ensures, c.args.books.now.ok.0));
      };
    }
