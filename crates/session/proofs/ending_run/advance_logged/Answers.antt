use Rattle.std.proofs.Common.{List, sym, subst}
use Rattle.std.specs.Prelude.{IfErr, IfOk, OnOk}
use Rattle.call_book.specs.Book.{BookView}
use Rattle.session.specs.RunEnd.{IsRunStopped}
use Rattle.session.specs.declared.ending_run.Recorded.{Recorded}
use Rattle.session.specs.private.Ending.{AllEnd, AreEndLogs, IsFullAmong}
use Rattle.session.proofs.Closed.{all_unstreamed, books_ended}
use Rattle.session.proofs.ending_run.advance_logged.Goals as goal

pub returns-clause-ends : goal.returns-clause-ends
returns-clause-ends g c =
    let books = c.advance-logged.new.unlocked.books.items in
    subst (λ (bs : List BookView). OnOk c.advance-logged.result (AllEnd c.args.duration bs)) (sym (books_ended c.end-ending.result.books.items books c.end-ending.ensures)) c.advance-logged.ensures.ends

pub returns-clause-unstreamed : goal.returns-clause-unstreamed
returns-clause-unstreamed g c = all_unstreamed c.end-ending.result.books.items c.advance-logged.new.unlocked.books.items c.end-ending.ensures

pub returns-clause-logs : goal.returns-clause-logs
returns-clause-logs g c =
    let books = c.advance-logged.new.unlocked.books.items in
    subst (λ (bs : List BookView). IfOk c.advance-logged.result (λ (t : Recorded). AreEndLogs c.args.wanted c.args.duration bs t.logs.items))
    (sym (books_ended c.end-ending.result.books.items books c.end-ending.ensures)) c.advance-logged.ensures.logs

pub returns-clause-err : goal.returns-clause-err
returns-clause-err g c =
    let books = c.advance-logged.new.unlocked.books.items in
    subst (λ (bs : List BookView). IfErr c.advance-logged.result (IsRunStopped (IsFullAmong c.args.duration bs c.args.client.now c.advance-logged.new.client)))
    (sym (books_ended c.end-ending.result.books.items books c.end-ending.ensures)) c.advance-logged.ensures.err
