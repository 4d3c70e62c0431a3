use Rattle.std.proofs.Common.{◌≡◌, ℕ, ◌≤◌, ◌<◌, ◌+◌, ◌∙◌, List, [], ◌∷◌, ◌++◌, true, false, get_or, length, set, sym, refl, ap, subst, arith}
use Rattle.std.proofs.lemmas.Grind.{common_steps}
use Rattle.std.proofs.lemmas.List.{get_or-map, length-map, length-set, length_push, map-set}
use Rattle.std.proofs.lemmas.Result.{err_from_is_err_and}
use Rattle.run_figures.specs.Accounting.{AccountingView}
use Rattle.call_book.specs.Book.{BookView, IsFull}
use Rattle.call_book.specs.Ending.{EndingView}
use Rattle.session.specs.private.Ending.{IsFullAmong, books_of}
use Rattle.session.specs.private.Entering.{IsSessionBook}
use Rattle.session.specs.private.Parts.{AreSessionBooks}
use Rattle.session.proofs.Advanced.{FirstEnd, FirstStreamed, makes_everywhere, makes_more, named_set, ends_by, ends_more, first_more, rest_less, streamed_more, stopped_so, full_among}
use Rattle.session.proofs.ending_run.stream_all.Goals as goal

-- the book of a place
abbrev book : EndingView → BookView
book e = e.book

-- with another book at a place
put : (books : List EndingView) (n : ℕ) (e : EndingView) → set (books_of books) n e.book ≡ books_of (set books n e)
put books n e = sym (map-set (λ (x : EndingView). x.book) books n e)

-- the book of a place among books at their end
book_at : (books : List EndingView) (n : ℕ) (e : EndingView) → n < length books → e ≡ get_or books n e → get_or (books_of books) n e.book ≡ e.book
book_at books n e inside is = get_or-map book books n e e.book inside ∙ ap book (sym is)

pub stream_book-requires-clause-named : goal.stream_book-requires-clause-named
stream_book-requires-clause-named g c =
    let inv = c.loop-place.invariant in
    let books = c.loop-place.books.items in
    let n = c.loop-place.place in
    let e = c.index_mut.result.now in
    let inside : n < length books = omega (arith, c.loop-place-test.true, inv.count, c.len-place-end.ensures, c.args.books.now.ok.0) in
    let there : n < length (books_of books) = omega (arith, inside, length-map books book) in
    subst (IsSessionBook g.N.Names.id n) (book_at books n e inside c.index_mut.ensures.value) (inv.named n e.book there)

pub returns-in_err-accounting-clause-named : goal.returns-in_err-accounting-clause-named
returns-in_err-accounting-clause-named g c =
    let id = g.N.Names.id in
    let inv = c.loop-place.invariant in
    let books = c.loop-place.books.items in
    let n = c.loop-place.place in
    let b = c.stream_book.new.book in
    let inside : n < length books = omega (arith, c.loop-place-test.true, inv.count, c.len-place-end.ensures, c.args.books.now.ok.0) in
    let there : n < length (books_of books) = omega (arith, inside, length-map books book) in
    subst (AreSessionBooks id) (put books n b) (named_set id (books_of books) n b.book there inv.named c.stream_book.ensures.named)

pub returns-in_err-accounting-clause-err : goal.returns-in_err-accounting-clause-err
returns-in_err-accounting-clause-err g c =
    let inv = c.loop-place.invariant in
    let logged = c.stream_book.ensures in
    let books = c.loop-place.books.items in
    let n = c.loop-place.place in
    let b = c.stream_book.new.book in
    let a = c.args.client.now in
    let now = c.stream_book.new.self in
    let inside : n < length books = omega (arith, c.loop-place-test.true, inv.count, c.len-place-end.ensures, c.args.books.now.ok.0) in
    let there : n < length (books_of books) = omega (arith, inside, length-map books book) in
    let place : n < length a.passes = omega (arith, inside, inv.count, c.requires.count, logged.domains, inv.made.domains) in
    let p = err_from_is_err_and c.from_residual.result c.from_residual.ensures.1 in
    rw (p.1, p.2) (stopped_so (IsFull b.book × (now ≡ c.loop-place.client)) (IsFullAmong c.args.duration (books_of (set books n b)) a now) c.in_err-accounting.field-0.0
    (λ met. subst (λ (bs : List BookView). IsFullAmong c.args.duration bs a now) (put books n b) (full_among n c.args.duration (books_of books) b.book a c.loop-place.client now there place c.requires.some inv.made met.0 met.1))
    c.in_err-accounting.ensures.err)

pub loop-place-preserved : goal.loop-place-preserved
loop-place-preserved g c =
    let id = g.N.Names.id in
    let inv = c.loop-place.invariant in
    let logged = c.stream_book.ensures in
    let done = c.in_ok-accounting.ensures in
    let books = c.loop-place.books.items in
    let n = c.loop-place.place in
    let b = c.stream_book.new.book in
    let inside : n < length books = omega (arith, c.loop-place-test.true, inv.count, c.len-place-end.ensures, c.args.books.now.ok.0) in
    let there : n < length (books_of books) = omega (arith, inside, length-map books (λ (x : EndingView). x.book)) in
    let first : c.loop-place.client.number ≡ 1 = inv.made.number ∙ c.requires.first in
    let streamed = c.push_reserved.ensures.items in
    record {
      named = subst (AreSessionBooks id) (put books n b) (named_set id (books_of books) n b.book there inv.named logged.named);
      count = length-set books n b ∙ inv.count;
      domains = λ some. sym inv.made.domains ∙ logged.domains;
      made = makes_more n (n + 1) c.args.duration c.args.client.now c.loop-place.client c.stream_book.new.self refl inv.made done.made;
      ends = subst (FirstEnd (n + 1) c.args.duration) (put books n b) (ends_more n (n + 1) c.args.duration (books_of books) b.book there refl inv.ends (ends_by c.args.duration c.loop-place.client.number b.book.history first done.ends));
      first = first_more true n (n + 1) books b inside refl inv.first done.forgotten;
      rest = rest_less false n (n + 1) books b refl inv.rest;
      many = ap (λ (hs : List AccountingView). length hs) streamed ∙ length_push c.loop-place.streamed.items c.in_ok-accounting.accounting ∙ ap (λ (k : ℕ). k + 1) inv.many;
      streamed = subst (λ (hs : List AccountingView). FirstStreamed (n + 1) c.args.duration (books_of (set books n b)) hs) (sym streamed)
          (subst (λ (bs : List BookView). FirstStreamed (n + 1) c.args.duration bs (c.loop-place.streamed.items ++ c.in_ok-accounting.accounting ∷ [])) (put books n b)
          (streamed_more n (n + 1) c.args.duration (books_of books) b.book c.loop-place.streamed.items c.in_ok-accounting.accounting there inv.many refl inv.streamed done.streamed));
      room = omega (arith, inv.room, c.push_reserved.ensures.capacity);
    }

pub returns-clause-made : goal.returns-clause-made
returns-clause-made g c =
    let inv = c.loop-place.invariant in
    let all : length g.N.Names.id.cpu_sets ≤ c.loop-place.place = omega (arith, c.requires.count, c.loop-place-test.false, c.len-place-end.ensures, c.args.books.now.ok.0) in
    let count = inv.domains (omega (arith, all, c.requires.domains)) in
    makes_everywhere c.args.duration c.loop-place.place c.args.client.now c.loop-place.client c.requires.some (omega (arith, count, all)) inv.made

pub loop-place-init : goal.loop-place-init
loop-place-init g c = grind (arith, common_steps)

pub stream_book-requires-clause-unstreamed : goal.stream_book-requires-clause-unstreamed
stream_book-requires-clause-unstreamed g c = grind (arith, common_steps)
