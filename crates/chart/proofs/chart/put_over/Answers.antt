use Rattle.std.proofs.Common.{ℕ, List, sym, ap, ◌∙◌, subst}
use Rattle.std.proofs.lemmas.List.{take_all}
use Rattle.run_figures.specs.Lines.{numbered_lines}
use Rattle.chart.specs.declared.row.ChartRow.{ChartRow}
use Rattle.chart.specs.Pieces.{over_lines}
use Rattle.chart.specs.Rows.{chart_row_view_of, IsDrawn}
use Rattle.chart.proofs.Drawn.{starts_in, times_in}
use Rattle.draft.proofs.CallerLemmas.{as_text}
use Rattle.chart.proofs.Lines.{more_numbered, numbered-map}
use Rattle.chart.proofs.chart.put_over.Goals as goal

pub loop-place-preserved : goal.loop-place-preserved
loop-place-preserved c =
    more_numbered (λ k r. over_lines c.args.sheet.now k (chart_row_view_of r)) c.args.rows.now c.loop-place.place c.index-rows-place.result c.args.out.now c.loop-place.out c.put_over_lines.new.out c.loop-place-test.true c.loop-place.invariant (as_text c.loop-place.out c.put_over_lines.new.out _ _ (ap (λ (r : ChartRow). over_lines c.args.sheet.now c.loop-place.place (chart_row_view_of r)) c.index-rows-place.is) c.put_over_lines.ensures)

pub returns : goal.returns
returns c =
    let line : ℕ → ChartRow → List ℕ = λ k r. over_lines c.args.sheet.now k (chart_row_view_of r) in
    as_text c.args.out.now c.loop-place.out _ _
    (ap (λ (rs : List ChartRow). numbered_lines line 0 rs) (take_all c.loop-place.place c.args.rows.now c.loop-place-test.false)
    ∙ sym (numbered-map (over_lines c.args.sheet.now) chart_row_view_of 0 c.args.rows.now))
    c.loop-place.invariant

pub put_over_lines-requires-clause-starts : goal.put_over_lines-requires-clause-starts
put_over_lines-requires-clause-starts c =
    starts_in c.args.sheet.now.window c.index-rows-place.result.row.now (subst (IsDrawn c.args.sheet.now.window) (sym c.index-rows-place.is) (c.requires.drawn c.loop-place.place c.index-rows-place.result c.loop-place-test.true))

pub put_over_lines-requires-clause-times : goal.put_over_lines-requires-clause-times
put_over_lines-requires-clause-times c =
    times_in c.args.sheet.now.window c.index-rows-place.result.row.now (subst (IsDrawn c.args.sheet.now.window) (sym c.index-rows-place.is) (c.requires.drawn c.loop-place.place c.index-rows-place.result c.loop-place-test.true))
