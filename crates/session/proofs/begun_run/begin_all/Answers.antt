use Rattle.std.proofs.Common.{◌≡◌, ◌≤◌, ◌<◌, ◌+◌, ◌∙◌, List, length, sym, refl, subst, arith}
use Rattle.std.proofs.lemmas.List.{length-map, length-set}
use Rattle.std.proofs.lemmas.List.Elements.{All-set}
use Rattle.std.proofs.lemmas.Result.{err_from_is_err_and}
use Rattle.call_book.specs.Book.{BookView}
use Rattle.call_book.specs.Playing.{PlayingView, HasWholeRun}
use Rattle.session.specs.Begun.{played_books, IsUnlogged, LogsItsEnd}
use Rattle.session.specs.private.Ending.{IsFullAmong}
use Rattle.session.specs.private.Entering.{IsSessionBook}
use Rattle.session.specs.private.Parts.{AreSessionBooks}
use Rattle.session.proofs.Advanced.{FirstEnd, makes_everywhere, makes_more, named_set, ends_by, ends_more, full_among}
use Rattle.session.proofs.Begun.{played_at, put_played, whole_set, rest_made, first_more}
use Rattle.session.proofs.begun_run.begin_all.Goals as goal

-- the book of a place
abbrev book : PlayingView → BookView
book p = p.book

pub begin_book-requires-clause-named : goal.begin_book-requires-clause-named
begin_book-requires-clause-named g c =
    let inv = c.loop-place.invariant in
    let books = c.loop-place.books.items in
    let n = c.loop-place.place in
    let p = c.index_mut.result.now in
    let inside : n < length books = omega (arith, c.loop-place-test.true, inv.count, c.len-place-end.ensures, c.args.books.now.ok.0) in
    let there : n < length (played_books books) = omega (arith, inside, length-map books book) in
    subst (IsSessionBook g.N.Names.id n) (played_at books n p inside c.index_mut.ensures.value) (inv.named n p.book there)

pub loop-place-preserved : goal.loop-place-preserved
loop-place-preserved g c =
    let id = g.N.Names.id in
    let inv = c.loop-place.invariant in
    let logged = c.begin_book.ensures in
    let books = c.loop-place.books.items in
    let n = c.loop-place.place in
    let p = c.begin_book.new.book in
    let inside : n < length books = omega (arith, c.loop-place-test.true, inv.count, c.len-place-end.ensures, c.args.books.now.ok.0) in
    let there : n < length (played_books books) = omega (arith, inside, length-map books book) in
    let first : c.loop-place.client.number ≡ 1 = inv.made.number ∙ c.requires.first in
    let whole : HasWholeRun c.index_mut.result.now = subst HasWholeRun (sym c.index_mut.ensures.value) (inv.whole n c.index_mut.result.now inside) in
    record {
      named = subst (AreSessionBooks id) (put_played books n p) (named_set id (played_books books) n p.book there inv.named logged.named);
      count = length-set books n p ∙ inv.count;
      domains = λ some. sym inv.made.domains ∙ logged.domains;
      made = makes_more n (n + 1) c.args.duration c.args.client.now c.loop-place.client c.begin_book.new.self refl inv.made c.in_ok-begin_book.ensures.made;
      ends = subst (FirstEnd (n + 1) c.args.duration) (put_played books n p) (ends_more n (n + 1) c.args.duration (played_books books) p.book there refl inv.ends (ends_by c.args.duration c.loop-place.client.number p.book.history first c.in_ok-begin_book.ensures.ends));
      rest = rest_made n (n + 1) books p refl inv.rest;
      whole = whole_set books n p inside inv.whole (logged.whole whole);
      unlogged = λ logs were.
          let are = inv.unlogged logs were in
          All-set (IsUnlogged logs) books n p (logged.unlogged logs (subst (IsUnlogged logs) (sym c.index_mut.ensures.value) (are n c.index_mut.result.now inside))) are;
      say = first_more (LogsItsEnd c.args.duration) n (n + 1) books p inside refl inv.say (c.in_ok-begin_book.ensures.has_logged whole);
    }

pub returns-in_err-begin_book-clause-named : goal.returns-in_err-begin_book-clause-named
returns-in_err-begin_book-clause-named g c =
    let id = g.N.Names.id in
    let inv = c.loop-place.invariant in
    let books = c.loop-place.books.items in
    let n = c.loop-place.place in
    let p = c.begin_book.new.book in
    let inside : n < length books = omega (arith, c.loop-place-test.true, inv.count, c.len-place-end.ensures, c.args.books.now.ok.0) in
    let there : n < length (played_books books) = omega (arith, inside, length-map books book) in
    subst (AreSessionBooks id) (put_played books n p) (named_set id (played_books books) n p.book there inv.named c.begin_book.ensures.named)

pub returns-in_err-begin_book-clause-full : goal.returns-in_err-begin_book-clause-full
returns-in_err-begin_book-clause-full g c =
    let inv = c.loop-place.invariant in
    let logged = c.begin_book.ensures in
    let books = c.loop-place.books.items in
    let n = c.loop-place.place in
    let p = c.begin_book.new.book in
    let a = c.args.client.now in
    let now = c.begin_book.new.self in
    let inside : n < length books = omega (arith, c.loop-place-test.true, inv.count, c.len-place-end.ensures, c.args.books.now.ok.0) in
    let there : n < length (played_books books) = omega (arith, inside, length-map books book) in
    let place : n < length a.passes = omega (arith, inside, inv.count, c.requires.count, logged.domains, inv.made.domains) in
    let met = c.in_err-begin_book.ensures.full in
    let q = err_from_is_err_and c.from_residual.result c.from_residual.ensures.1 in
    rw q.1 (subst (λ (bs : List BookView). IsFullAmong c.args.duration bs a now) (put_played books n p)
    (full_among n c.args.duration (played_books books) p.book a c.loop-place.client now there place c.requires.some inv.made met.0 met.1))

pub returns-clause-made : goal.returns-clause-made
returns-clause-made g c =
    let inv = c.loop-place.invariant in
    let all : length g.N.Names.id.cpu_sets ≤ c.loop-place.place = omega (arith, c.requires.count, c.loop-place-test.false, c.len-place-end.ensures, c.args.books.now.ok.0) in
    let count = inv.domains (omega (arith, all, c.requires.domains)) in
    makes_everywhere c.args.duration c.loop-place.place c.args.client.now c.loop-place.client c.requires.some (omega (arith, count, all)) inv.made

pub returns-clause-say : goal.returns-clause-say
returns-clause-say g c = λ d x inside.
    c.loop-place.invariant.say d x (omega (arith, inside, c.loop-place-test.false, c.loop-place.invariant.count, c.len-place-end.ensures, c.args.books.now.ok.0)) inside

pub returns-in_err-begin_book-clause-unlogged : goal.returns-in_err-begin_book-clause-unlogged
returns-in_err-begin_book-clause-unlogged g c = λ logs were.
    let inv = c.loop-place.invariant in
    let books = c.loop-place.books.items in
    let n = c.loop-place.place in
    let p = c.begin_book.new.book in
    let inside : n < length books = omega (arith, c.loop-place-test.true, inv.count, c.len-place-end.ensures, c.args.books.now.ok.0) in
    let are = inv.unlogged logs were in
    All-set (IsUnlogged logs) books n p (c.begin_book.ensures.unlogged logs (subst (IsUnlogged logs) (sym c.index_mut.ensures.value) (are n c.index_mut.result.now inside))) are
