use Rattle.std.proofs.Common.{ℕ, List, sym, ap, ◌∙◌}
use Rattle.std.proofs.lemmas.List.{take_all}
use Rattle.run_figures.specs.Lines.{numbered_lines}
use Rattle.chart.specs.declared.row.ChartRow.{ChartRow}
use Rattle.chart.specs.Pieces.{row_lines}
use Rattle.chart.specs.Rows.{chart_row_view_of}
use Rattle.draft.proofs.CallerLemmas.{as_text}
use Rattle.chart.proofs.Lines.{more_numbered, numbered-map}
use Rattle.chart.proofs.chart.put_rows.Goals as goal

pub loop-place-preserved : goal.loop-place-preserved
loop-place-preserved c =
    more_numbered (λ k r. row_lines c.args.sheet.now k (chart_row_view_of r)) c.args.rows.now c.loop-place.place c.index-rows-place.result c.args.out.now c.loop-place.out c.put_row_lines.new.out c.loop-place-test.true c.loop-place.invariant (as_text c.loop-place.out c.put_row_lines.new.out _ _ (ap (λ (r : ChartRow). row_lines c.args.sheet.now c.loop-place.place (chart_row_view_of r)) c.index-rows-place.is) c.put_row_lines.ensures)

pub returns : goal.returns
returns c =
    let line : ℕ → ChartRow → List ℕ = λ k r. row_lines c.args.sheet.now k (chart_row_view_of r) in
    as_text c.args.out.now c.loop-place.out _ _
    (ap (λ (rs : List ChartRow). numbered_lines line 0 rs) (take_all c.loop-place.place c.args.rows.now c.loop-place-test.false)
    ∙ sym (numbered-map (row_lines c.args.sheet.now) chart_row_view_of 0 c.args.rows.now))
    c.loop-place.invariant
