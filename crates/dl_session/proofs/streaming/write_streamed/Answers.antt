use Rattle.std.proofs.Common.{Bool, refl, subst}
use Rattle.std.proofs.lemmas.Result.{err_from_is_err_and}
use Rattle.counted_io.specs.Sides.{side}
use Rattle.session.specs.Begun.{section_of}
use Rattle.std.proofs.Common.{map}
use Rattle.dl_session.specs.private.Streaming.{streamed_print, streamed_text}
use Rattle.dl_session.specs.private.PlayedBooks.{AreLogging}
use Rattle.dl_session.proofs.Ran.{keeps_itself}
use Rattle.dl_session.proofs.Answering.{some_clients, first_is, begun_ready, begun_logged, begun_answers, streamed_as, is_written, is_unwritten, stopped}
use Rattle.dl_session.proofs.streaming.write_streamed.Goals as goal

pub begin_end-requires-clause-some : goal.begin_end-requires-clause-some
begin_end-requires-clause-some g c = let a = c.args.asked in some_clients g.N.Names.id a.tasks.now a.clients.items a.refused.items c.requires.asked

pub begin_end-requires-clause-first : goal.begin_end-requires-clause-first
begin_end-requires-clause-first g c = let a = c.args.asked in first_is g.N.Names.id a.tasks.now a.clients.items a.refused.items c.requires.asked

pub write_begun-requires-clause-ready : goal.write_begun-requires-clause-ready
write_begun-requires-clause-ready g c κs within =
    let a = c.args.asked in
    let b = c.in_ok-begun.begun in
    let logs = c.needs_log.result in
    begun_ready g.N.Names.id a.tasks.now c.args.duration logs a.clients.items a.refused.items b.books.items b.rest a.few c.requires.duration c.requires.asked c.in_ok-begun.ensures.ok

pub write_begun-requires-clause-logged_run : goal.write_begun-requires-clause-logged_run
write_begun-requires-clause-logged_run g c κs within =
    let a = c.args.asked in
    let b = c.in_ok-begun.begun in
    let logs = c.needs_log.result in
    subst (λ (wanted : Bool). AreLogging wanted b.books.items) c.needs_log.ensures
    (begun_logged g.N.Names.id c.args.duration logs a.clients.items b.books.items b.rest c.in_ok-begun.ensures.ok)

pub write_begun-requires-clause-same : goal.write_begun-requires-clause-same
write_begun-requires-clause-same g c κs within = c.in_ok-begun.ensures.ok.same

pub returns-clause-ok : goal.returns-clause-ok
returns-clause-ok g c =
    let id = g.N.Names.id in
    let a = c.args.asked in
    let b = c.in_ok-begun.begun in
    let w = side g.W.Write.contents c.args.writer.now c.write_begun.new.writer in
    let hs = map section_of b.rest.books in
    is_written id a.tasks.now c.args.duration (streamed_print c.args.streaming) b.rest.clients a.refused.items hs w (streamed_text c.args.streaming hs) c.in_ok-report.report _
    (begun_answers id a.tasks.now c.args.duration c.needs_log.result a.clients.items a.refused.items b.books.items b.rest c.requires.asked c.in_ok-begun.ensures.ok)
    c.in_ok-report.ensures.report.left c.in_ok-report.ensures.histories (streamed_as c.args.streaming a.tasks.now hs) c.in_ok-report.ensures.ok refl refl refl refl refl

pub returns-in_err-report-clause-err : goal.returns-in_err-report-clause-err
returns-in_err-report-clause-err g c =
    let id = g.N.Names.id in
    let a = c.args.asked in
    let b = c.in_ok-begun.begun in
    let w = side g.W.Write.contents c.args.writer.now c.write_begun.new.writer in
    let hs = map section_of b.rest.books in
    let p = err_from_is_err_and c.from_residual-in_err-report.result c.from_residual-in_err-report.ensures.1 in
    rw p.1 (is_unwritten id a.tasks.now c.args.duration (streamed_print c.args.streaming) a.refused.items hs w (streamed_text c.args.streaming hs) c.in_err-report.field-0.0 p.0
    (begun_answers id a.tasks.now c.args.duration c.needs_log.result a.clients.items a.refused.items b.books.items b.rest c.requires.asked c.in_ok-begun.ensures.ok)
    (streamed_as c.args.streaming a.tasks.now hs) c.in_err-report.ensures.err p.2)

pub returns-in_err-begun-clause-err : goal.returns-in_err-begun-clause-err
returns-in_err-begun-clause-err g c =
    let a = c.args.asked in
    let w = side g.W.Write.contents c.args.writer.now c.args.writer.now in
    let p = err_from_is_err_and c.from_residual.result c.from_residual.ensures.1 in
    rw p.1 (stopped g.N.Names.id a.tasks.now c.args.duration (streamed_print c.args.streaming) a.clients.items a.refused.items w c.in_err-begun.field-0.0 p.0
    c.requires.asked c.in_err-begun.ensures.err p.2 (record { kept = keeps_itself w.before.bytes; no_fault = refl }))
