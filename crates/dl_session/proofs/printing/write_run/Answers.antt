use Rattle.std.proofs.Common.{◌≡◌, List, length, sym, subst, ◌∙◌}
use Rattle.counted_io.specs.Sides.{Side, side}
use Rattle.chart_pieces.specs.declared.window.Window.{Window}
use Rattle.calls_trace.specs.Charted.{chart_in}
use Rattle.run_figures.specs.Accounting.{AccountingView}
use Rattle.calls_trace.specs.Streamed.{AreAccountings, AreDrawings, AreRunsButSwitches}
use Rattle.calls_trace.specs.DomainEvents.{jobs_of_sections, summary_of_sections}
use Rattle.domain_run.specs.Domain.{Domain}
use Rattle.dl_session.specs.Promised.{IsRowOf, AreRows}
use Rattle.dl_session.specs.private.Printing.{print_of_kept, IsMadeText}
use Rattle.dl_session.proofs.WrittenAs.{written_as, unwritten_as, written_also, unwritten_also}
use Rattle.dl_session.proofs.PrintedAs.{are_figured, summary_alone, jobs_are_figured, jobs_alone, are_sketched, chart_alone, rows_alone}
use Rattle.dl_session.proofs.printing.write_run.Goals as goal

-- ---- of what was streamed

pub write_streamed_summary-requires-clause-as_many : goal.write_streamed_summary-requires-clause-as_many
write_streamed_summary-requires-clause-as_many g c =
    subst (λ (xs : List AccountingView). length xs ≡ length c.args.histories.now) (sym c.deref-in-Summary.ensures.value) (are_figured c.args.duration c.args.kept c.in-Summary.is c.args.histories.now c.args.left c.requires.runs).as_many

pub write_streamed_summary-requires-clause-runs : goal.write_streamed_summary-requires-clause-runs
write_streamed_summary-requires-clause-runs g c =
    let are = are_figured c.args.duration c.args.kept c.in-Summary.is c.args.histories.now c.args.left c.requires.runs in
    subst (AreRunsButSwitches c.args.histories.now) (sym c.deref.ensures.value) are.runs

pub write_streamed_summary-requires-clause-streamed : goal.write_streamed_summary-requires-clause-streamed
write_streamed_summary-requires-clause-streamed g c =
    subst (AreAccountings c.args.histories.now) (sym c.deref-in-Summary.ensures.value) (are_figured c.args.duration c.args.kept c.in-Summary.is c.args.histories.now c.args.left c.requires.runs).all

pub returns-in-Summary-clause-ok : goal.returns-in-Summary-clause-ok
returns-in-Summary-clause-ok g c =
    let w : Side = side g.W.Write.contents c.args.writer.now c.write_streamed_summary.new.writer in
    let hs = c.args.histories.now in
    written_as c.write_streamed_summary.result (IsMadeText (print_of_kept c.args.kept) c.args.tasks.now hs) w (summary_of_sections hs)
    (summary_alone c.args.kept c.in-Summary.is c.args.tasks.now hs) c.write_streamed_summary.ensures.ok

pub returns-in-Summary-clause-err : goal.returns-in-Summary-clause-err
returns-in-Summary-clause-err g c =
    let w : Side = side g.W.Write.contents c.args.writer.now c.write_streamed_summary.new.writer in
    let hs = c.args.histories.now in
    unwritten_as c.write_streamed_summary.result (IsMadeText (print_of_kept c.args.kept) c.args.tasks.now hs) w (summary_of_sections hs)
    (summary_alone c.args.kept c.in-Summary.is c.args.tasks.now hs) c.write_streamed_summary.ensures.err

pub write_streamed_jobs-requires-clause-as_many : goal.write_streamed_jobs-requires-clause-as_many
write_streamed_jobs-requires-clause-as_many g c =
    subst (λ (xs : List AccountingView). length xs ≡ length c.args.histories.now) (sym c.deref_mut.ensures.value) (jobs_are_figured c.args.duration c.args.kept c.in-Jobs.is c.args.histories.now c.args.left c.requires.runs).as_many

pub write_streamed_jobs-requires-clause-runs : goal.write_streamed_jobs-requires-clause-runs
write_streamed_jobs-requires-clause-runs g c =
    let are = jobs_are_figured c.args.duration c.args.kept c.in-Jobs.is c.args.histories.now c.args.left c.requires.runs in
    subst (AreRunsButSwitches c.args.histories.now) (sym c.deref-in-Jobs.ensures.value) are.runs

pub write_streamed_jobs-requires-clause-streamed : goal.write_streamed_jobs-requires-clause-streamed
write_streamed_jobs-requires-clause-streamed g c =
    subst (AreAccountings c.args.histories.now) (sym c.deref_mut.ensures.value) (jobs_are_figured c.args.duration c.args.kept c.in-Jobs.is c.args.histories.now c.args.left c.requires.runs).all

pub returns-in-Jobs-clause-ok : goal.returns-in-Jobs-clause-ok
returns-in-Jobs-clause-ok g c =
    let w : Side = side g.W.Write.contents c.args.writer.now c.write_streamed_jobs.new.writer in
    let hs = c.args.histories.now in
    written_as c.write_streamed_jobs.result (IsMadeText (print_of_kept c.args.kept) c.args.tasks.now hs) w (jobs_of_sections hs)
    (jobs_alone c.args.kept c.in-Jobs.is c.args.tasks.now hs) c.write_streamed_jobs.ensures.ok

pub returns-in-Jobs-clause-err : goal.returns-in-Jobs-clause-err
returns-in-Jobs-clause-err g c =
    let w : Side = side g.W.Write.contents c.args.writer.now c.write_streamed_jobs.new.writer in
    let hs = c.args.histories.now in
    unwritten_as c.write_streamed_jobs.result (IsMadeText (print_of_kept c.args.kept) c.args.tasks.now hs) w (jobs_of_sections hs)
    (jobs_alone c.args.kept c.in-Jobs.is c.args.tasks.now hs) c.write_streamed_jobs.ensures.err

-- ---- of what was drawn

pub write_drawn_chart-requires-clause-runs : goal.write_drawn_chart-requires-clause-runs
write_drawn_chart-requires-clause-runs g c =
    let are = are_sketched c.args.duration c.args.kept c.in-Chart.span c.in-Chart.is c.args.histories.now c.args.left c.requires.runs in
    subst (AreRunsButSwitches c.args.histories.now) (sym c.deref-in-Chart.ensures.value) are.runs

pub write_drawn_chart-requires-clause-drawn : goal.write_drawn_chart-requires-clause-drawn
write_drawn_chart-requires-clause-drawn g c =
    let are = are_sketched c.args.duration c.args.kept c.in-Chart.span c.in-Chart.is c.args.histories.now c.args.left c.requires.runs in
    subst (λ (w : Window). AreDrawings w c.args.histories.now c.args.left.drawn.items) (sym c.window-window.ensures.window) are.drawings

pub returns-in-Chart-clause-ok : goal.returns-in-Chart-clause-ok
returns-in-Chart-clause-ok g c =
    let w : Side = side g.W.Write.contents c.args.writer.now c.write_drawn_chart.new.writer in
    let hs = c.args.histories.now in
    let made = subst (λ (x : Window). IsMadeText (print_of_kept c.args.kept) c.args.tasks.now hs (chart_in x hs)) (sym c.window-window.ensures.window)
    (chart_alone c.args.duration c.args.kept c.in-Chart.span c.in-Chart.is c.args.tasks.now hs c.requires.last) in
    written_as c.write_drawn_chart.result (IsMadeText (print_of_kept c.args.kept) c.args.tasks.now hs) w (chart_in c.window-window.result hs) made c.write_drawn_chart.ensures.ok

pub returns-in-Chart-clause-err : goal.returns-in-Chart-clause-err
returns-in-Chart-clause-err g c =
    let w : Side = side g.W.Write.contents c.args.writer.now c.write_drawn_chart.new.writer in
    let hs = c.args.histories.now in
    let made = subst (λ (x : Window). IsMadeText (print_of_kept c.args.kept) c.args.tasks.now hs (chart_in x hs)) (sym c.window-window.ensures.window)
    (chart_alone c.args.duration c.args.kept c.in-Chart.span c.in-Chart.is c.args.tasks.now hs c.requires.last) in
    unwritten_as c.write_drawn_chart.result (IsMadeText (print_of_kept c.args.kept) c.args.tasks.now hs) w (chart_in c.window-window.result hs) made c.write_drawn_chart.ensures.err

-- ---- of tasks and states

pub returns-clause-ok : goal.returns-clause-ok
returns-clause-ok g c =
    let w : Side = side g.W.Write.contents c.args.writer.now c.write_promises.new.writer in
    let hs = c.args.histories.now in
    written_also c.write_promises.result (AreRows (IsRowOf c.deref-in-Promises.result.now) c.args.tasks.now) (IsMadeText (print_of_kept c.args.kept) c.args.tasks.now hs) w
    (λ text rows. rows_alone c.args.duration c.args.kept c.in-Promises.is c.args.tasks.now hs c.args.left text c.requires.count c.requires.runs
    (subst (λ (ds : List Domain). AreRows (IsRowOf ds) c.args.tasks.now text) c.deref-in-Promises.ensures.value rows))
    c.write_promises.ensures.ok

pub returns-clause-err : goal.returns-clause-err
returns-clause-err g c =
    let w : Side = side g.W.Write.contents c.args.writer.now c.write_promises.new.writer in
    let hs = c.args.histories.now in
    unwritten_also c.write_promises.result (AreRows (IsRowOf c.deref-in-Promises.result.now) c.args.tasks.now) (IsMadeText (print_of_kept c.args.kept) c.args.tasks.now hs) w
    (λ text rows. rows_alone c.args.duration c.args.kept c.in-Promises.is c.args.tasks.now hs c.args.left text c.requires.count c.requires.runs
    (subst (λ (ds : List Domain). AreRows (IsRowOf ds) c.args.tasks.now text) c.deref-in-Promises.ensures.value rows))
    c.write_promises.ensures.err
