use Rattle.std.proofs.Common.{false, List, map, refl, subst, ◌∙◌}
use Rattle.std.proofs.lemmas.Result.{err_from_is_err_and}
use Rattle.counted_io.specs.Sides.{side}
use Rattle.calls_text.specs.SectionView.{SectionView}
use Rattle.calls_trace.specs.Written.{IsWritten, IsUnwritten}
use Rattle.session.specs.Begun.{section_of}
use Rattle.dl_session.specs.private.HistoryText.{logged_text, print_of}
use Rattle.dl_session.proofs.Answering.{some_clients, first_is, begun_answers, is_written, is_unwritten, stopped, logged_as}
use Rattle.dl_session.proofs.Ran.{keeps_itself}
use Rattle.dl_session.proofs.history_text.write_logged.Goals as goal

pub begin_end-requires-clause-some : goal.begin_end-requires-clause-some
begin_end-requires-clause-some g c = let a = c.args.asked in some_clients g.N.Names.id a.tasks.now a.clients.items a.refused.items c.requires.asked

pub begin_end-requires-clause-first : goal.begin_end-requires-clause-first
begin_end-requires-clause-first g c = let a = c.args.asked in first_is g.N.Names.id a.tasks.now a.clients.items a.refused.items c.requires.asked

pub returns-in_err-books-clause-err : goal.returns-in_err-books-clause-err
returns-in_err-books-clause-err g c =
    let a = c.args.asked in
    let w = side g.W.Write.contents c.args.writer.now c.args.writer.now in
    let p = err_from_is_err_and c.from_residual.result c.from_residual.ensures.1 in
    rw p.1 (stopped g.N.Names.id a.tasks.now c.args.duration (print_of c.args.history_text) a.clients.items a.refused.items w c.in_err-books.field-0.0 p.0
    c.requires.asked c.in_err-books.ensures.err p.2 (record { kept = keeps_itself w.before.bytes; no_fault = refl }))

pub returns-in-Ok-clause-ok : goal.returns-in-Ok-clause-ok
returns-in-Ok-clause-ok g c =
    let id = g.N.Names.id in
    let a = c.args.asked in
    let b = c.in_ok-books.field-0 in
    let t = c.args.history_text in
    let w = side g.W.Write.contents c.args.writer.now c.write_histories.new.writer in
    let hs = map section_of b.rest.books in
    is_written id a.tasks.now c.args.duration (print_of t) b.rest.clients a.refused.items hs w (logged_text t hs) c.finish_end-report.result _
    (begun_answers id a.tasks.now c.args.duration false a.clients.items a.refused.items b.books.items b.rest c.requires.asked c.in_ok-books.ensures.ok)
    c.finish_end-report.ensures.report.left c.finish_end-report.ensures.histories (logged_as t a.tasks.now hs)
    (subst (λ (xs : List SectionView). IsWritten w (logged_text t xs)) (c.deref.ensures.value ∙ c.finish_end-report.ensures.histories) c.in-Ok.ensures.ok)
    refl refl refl refl refl

pub returns-in-Err-clause-err : goal.returns-in-Err-clause-err
returns-in-Err-clause-err g c =
    let id = g.N.Names.id in
    let a = c.args.asked in
    let b = c.in_ok-books.field-0 in
    let t = c.args.history_text in
    let w = side g.W.Write.contents c.args.writer.now c.write_histories.new.writer in
    let hs = map section_of b.rest.books in
    is_unwritten id a.tasks.now c.args.duration (print_of t) a.refused.items hs w (logged_text t hs) c.in-Err.fault _
    (begun_answers id a.tasks.now c.args.duration false a.clients.items a.refused.items b.books.items b.rest c.requires.asked c.in_ok-books.ensures.ok)
    (logged_as t a.tasks.now hs)
    (subst (λ (xs : List SectionView). IsUnwritten w (logged_text t xs) c.in-Err.fault) (c.deref.ensures.value ∙ c.finish_end-report.ensures.histories) c.in-Err.ensures.err) c.from.ensures
