use Rattle.std.proofs.Common.{◌≡◌, ◌≤◌, ◌<◌, ◌+◌, ◌∙◌, length, set, sym, refl, arith}
use Rattle.std.proofs.lemmas.Grind.{common_steps}
use Rattle.std.proofs.lemmas.List.{length-set}
use Rattle.std.proofs.lemmas.Result.{err_from_is_err_and}
use Rattle.call_book.specs.Book.{IsFull}
use Rattle.session.specs.private.Ending.{IsFullAmong}
use Rattle.session.proofs.Advanced.{makes_everywhere, makes_more, named_set, ends_by, ends_more, log_more, rest_stay, stopped_so, full_among}
use Rattle.session.proofs.ending_run.advance_all.Goals as goal

pub loop-place-preserved : goal.loop-place-preserved
loop-place-preserved g c =
    let inv = c.loop-place.invariant in
    let logged = c.advance_book.ensures in
    let done = c.in_ok-advance_book.ensures in
    let books = c.loop-place.books.items in
    let n = c.loop-place.place in
    let b = c.advance_book.new.domain in
    let inside : n < length books = omega (arith, c.loop-place-test.true, inv.count, c.len-place-end.ensures, c.args.books.now.ok.0) in
    let first : c.loop-place.client.number ≡ 1 = inv.made.number ∙ c.requires.first in
    let logs = c.loop-place.logs.items in
    let log = c.advance_book.new.log in
    let within : n < length logs = omega (arith, inside, inv.logs, inv.count, c.requires.logs) in
    record {
      named = named_set g.N.Names.id books n b inside inv.named logged.named;
      count = length-set books n b ∙ inv.count;
      domains = λ some. sym inv.made.domains ∙ logged.domains;
      made = makes_more n (n + 1) c.args.duration c.args.client.now c.loop-place.client c.advance_book.new.self refl inv.made done.made;
      ends = ends_more n (n + 1) c.args.duration books b inside refl inv.ends (ends_by c.args.duration c.loop-place.client.number b.history first done.ends);
      logs = length-set logs n log ∙ inv.logs;
      logged = log_more n (n + 1) c.args.duration books b c.args.logs.now.items logs c.index_mut-log.result.now log inside within refl inv.logged inv.rest c.index_mut-log.ensures.value done.logged;
      rest = rest_stay n (n + 1) c.args.logs.now.items logs log refl inv.rest;
    }

pub returns-clause-made : goal.returns-clause-made
returns-clause-made g c =
    let inv = c.loop-place.invariant in
    let all : length g.N.Names.id.cpu_sets ≤ c.loop-place.place = omega (arith, c.requires.count, c.loop-place-test.false, c.len-place-end.ensures, c.args.books.now.ok.0) in
    let count = inv.domains (omega (arith, all, c.requires.domains)) in
    makes_everywhere c.args.duration c.loop-place.place c.args.client.now c.loop-place.client c.requires.some (omega (arith, count, all)) inv.made

pub returns-clause-ends : goal.returns-clause-ends
returns-clause-ends g c = λ d b inside. c.loop-place.invariant.ends d b (omega (arith, inside, c.loop-place.invariant.count, c.loop-place-test.false, c.len-place-end.ensures, c.args.books.now.ok.0))

pub returns-clause-logged : goal.returns-clause-logged
returns-clause-logged g c = λ d y x inside. c.loop-place.invariant.logged d y x (omega (arith, inside, c.loop-place.invariant.count, c.loop-place-test.false, c.len-place-end.ensures, c.args.books.now.ok.0))

pub returns-in_err-advance_book-clause-err : goal.returns-in_err-advance_book-clause-err
returns-in_err-advance_book-clause-err g c =
    let inv = c.loop-place.invariant in
    let logged = c.advance_book.ensures in
    let books = c.loop-place.books.items in
    let n = c.loop-place.place in
    let b = c.advance_book.new.domain in
    let a = c.args.client.now in
    let inside : n < length books = omega (arith, c.loop-place-test.true, inv.count, c.len-place-end.ensures, c.args.books.now.ok.0) in
    let there : n < length a.passes = omega (arith, inside, inv.count, c.requires.count, logged.domains, inv.made.domains) in
    let now = c.advance_book.new.self in
    let p = err_from_is_err_and c.from_residual.result c.from_residual.ensures.1 in
    rw (p.1, p.2) (stopped_so (IsFull b × (now ≡ c.loop-place.client)) (IsFullAmong c.args.duration (set books n b) a now) c.in_err-advance_book.field-0.0
    (λ met. full_among n c.args.duration books b a c.loop-place.client now inside there c.requires.some inv.made met.0 met.1)
    c.in_err-advance_book.ensures.err)

pub loop-place-init : goal.loop-place-init
loop-place-init g c = grind (arith, common_steps)

pub advance_book-requires-clause-named : goal.advance_book-requires-clause-named
advance_book-requires-clause-named g c = grind (arith, common_steps)
