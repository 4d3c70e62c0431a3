use Rattle.std.proofs.Common.{List, refl, sym, ap, subst, ◌∙◌}
use Rattle.std.proofs.lemmas.Result.{err_from_is_err_and}
use Rattle.counted_io.specs.Sides.{side}
use Rattle.calls_text.specs.SectionView.{SectionView}
use Rattle.calls_trace.specs.Charted.{last_time}
use Rattle.dl_session.specs.private.Printing.{print_of_kept, IsMadeText, IsWrittenAs, IsUnwrittenAs}
use Rattle.dl_session.proofs.Answering.{some_clients, first_is, finished_answers, finished_lasts, finished_left, is_written_as, is_unwritten_as, stopped}
use Rattle.dl_session.proofs.Ran.{keeps_itself}
use Rattle.dl_session.proofs.running.write_kept.Goals as goal

pub end_run-requires-clause-some : goal.end_run-requires-clause-some
end_run-requires-clause-some g c = let a = c.args.asked in some_clients g.N.Names.id a.tasks.now a.clients.items a.refused.items c.requires.asked

pub end_run-requires-clause-first : goal.end_run-requires-clause-first
end_run-requires-clause-first g c = let a = c.args.asked in first_is g.N.Names.id a.tasks.now a.clients.items a.refused.items c.requires.asked

pub write_run-requires-clause-runs : goal.write_run-requires-clause-runs
write_run-requires-clause-runs g c =
    let a = c.args.asked in
    let f = c.in_ok-report.field-0 in
    rw (sym c.wanted_for.ensures, c.deref.ensures.value) (finished_left g.N.Names.id a.tasks.now c.args.duration c.wanted_for.result a.clients.items a.refused.items f c.requires.asked c.in_ok-report.ensures.ok)

pub write_run-requires-clause-last : goal.write_run-requires-clause-last
write_run-requires-clause-last g c =
    let a = c.args.asked in
    let f = c.in_ok-report.field-0 in
    ap last_time c.deref.ensures.value
    ∙ finished_lasts g.N.Names.id a.tasks.now c.args.duration c.wanted_for.result a.clients.items a.refused.items f a.some c.requires.asked c.in_ok-report.ensures.ok

pub returns-in_err-report-clause-err : goal.returns-in_err-report-clause-err
returns-in_err-report-clause-err g c =
    let a = c.args.asked in
    let w = side g.W.Write.contents c.args.writer.now c.args.writer.now in
    let p = err_from_is_err_and c.from_residual.result c.from_residual.ensures.1 in
    rw p.1 (stopped g.N.Names.id a.tasks.now c.args.duration (print_of_kept c.args.kept) a.clients.items a.refused.items w c.in_err-report.field-0.0 p.0
    c.requires.asked c.in_err-report.ensures.err p.2 (record { kept = keeps_itself w.before.bytes; no_fault = refl }))

pub returns-in-Ok-clause-ok : goal.returns-in-Ok-clause-ok
returns-in-Ok-clause-ok g c =
    let id = g.N.Names.id in
    let a = c.args.asked in
    let f = c.in_ok-report.field-0 in
    let w = side g.W.Write.contents c.args.writer.now c.write_run.new.writer in
    is_written_as id a.tasks.now c.args.duration (print_of_kept c.args.kept) c.in_ok-report.ensures.ok.after a.refused.items f.report.histories.items w f.report _
    (finished_answers id a.tasks.now c.args.duration c.wanted_for.result a.clients.items a.refused.items f c.requires.asked c.in_ok-report.ensures.ok)
    c.in_ok-report.ensures.ok.report.left refl
    (subst (λ (xs : List SectionView). IsWrittenAs (IsMadeText (print_of_kept c.args.kept) a.tasks.now xs) w) c.deref.ensures.value c.in-Ok.ensures.ok)
    refl refl refl refl refl

pub returns-in-Err-clause-err : goal.returns-in-Err-clause-err
returns-in-Err-clause-err g c =
    let id = g.N.Names.id in
    let a = c.args.asked in
    let f = c.in_ok-report.field-0 in
    let w = side g.W.Write.contents c.args.writer.now c.write_run.new.writer in
    is_unwritten_as id a.tasks.now c.args.duration (print_of_kept c.args.kept) a.refused.items f.report.histories.items w c.in-Err.fault _
    (finished_answers id a.tasks.now c.args.duration c.wanted_for.result a.clients.items a.refused.items f c.requires.asked c.in_ok-report.ensures.ok)
    (subst (λ (xs : List SectionView). IsUnwrittenAs (IsMadeText (print_of_kept c.args.kept) a.tasks.now xs) w c.in-Err.fault) c.deref.ensures.value c.in-Err.ensures.err) c.from.ensures
