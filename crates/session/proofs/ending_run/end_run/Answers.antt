use Rattle.std.proofs.Common.{set, refl, subst}
use Rattle.std.specs.Prelude.{IfErr, IfOk, OnOk}
use Rattle.std.proofs.lemmas.Result.{err_from_is_err_and}
use Rattle.session.specs.Asks.{Makes}
use Rattle.session.specs.declared.ending_run.Recorded.{Recorded}
use Rattle.session.specs.private.Ending.{AllEnd, AreLoggedAs, IsFullAmong, books_of}
use Rattle.session.specs.RunEnd.{IsFullWith, IsRunStopped, advance_of}
use Rattle.session.proofs.Advanced.{have_advanced, is_finished, stopped_so, full_with}
use Rattle.session.proofs.ending_run.end_run.Goals as goal

pub returns-clause-ok : goal.returns-clause-ok
returns-clause-ok g c =
    let cs = c.args.clients.items in
    let made = c.advance_as-ending in
    let first = c.index_mut.result.now in
    let client = made.new.client in
    let left = made.result.ending in
    let closed = c.close-report.ensures in
    let was = c.in_ok-logs.was in
    let mine : Makes first client (λ d. advance_of c.args.duration 1) = subst (λ r. OnOk r (Makes first client (λ d. advance_of c.args.duration 1))) was made.ensures.made in
    let ends : AllEnd c.args.duration (books_of left.books.items) = subst (λ r. OnOk r (AllEnd c.args.duration (books_of left.books.items))) was made.ensures.ends in
    let t : Recorded = c.in_ok-logs.field-0 in
    let logged : AreLoggedAs c.args.duration c.args.wanted left.books.items t = subst (λ r. IfOk r (AreLoggedAs c.args.duration c.args.wanted left.books.items)) was made.ensures.logged in
    is_finished g.N.Names.id c.args.duration c.args.wanted cs (set cs 0 client) left.books.items
    (record { report = c.close-report.result.report; states = c.close-report.result.states; logs = t.logs; streamed = t.streamed; drawn = t.drawn })
    t
    (have_advanced c.args.duration cs first client c.requires.some c.index_mut.ensures.value mine)
    closed.report closed.ended left.count left.named ends logged refl refl refl

pub returns-in_err-logs-clause-err : goal.returns-in_err-logs-clause-err
returns-in_err-logs-clause-err g c =
    let id = g.N.Names.id in
    let cs = c.args.clients.items in
    let made = c.advance_as-ending in
    let first = c.index_mut.result.now in
    let client = made.new.client in
    let left = made.result.ending in
    let closed = c.close-report.ensures in
    let p = err_from_is_err_and c.from_residual-in_err-logs.result c.from_residual-in_err-logs.ensures.1 in
    rw (p.1, p.2) (stopped_so (IsFullAmong c.args.duration (books_of left.books.items) first client) (IsFullWith id c.args.duration cs) c.in_err-logs.field-0.0
    (full_with id c.args.duration cs first client left.books.items c.close-report.result.report c.close-report.result.states.items c.requires.some c.index_mut.ensures.value closed.report closed.ended left.count left.named)
    (subst (λ r. IfErr r (IsRunStopped (IsFullAmong c.args.duration (books_of left.books.items) first client))) c.in_err-logs.was made.ensures.err))
