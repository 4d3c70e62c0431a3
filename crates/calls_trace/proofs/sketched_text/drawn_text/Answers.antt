use Rattle.std.proofs.Common.{◌≡◌, map, sym, ap, subst, ◌∙◌}
use Rattle.std.specs.Prelude.{All}
use Rattle.draft.proofs.CallerLemmas.{finished, as_text}
use Rattle.chart.specs.Rows as charts
use Rattle.calls_trace.specs.private.Sketched.{charted_from, sketch_as}
use Rattle.calls_trace.proofs.Sketches.{chart_made}
use Rattle.calls_trace.proofs.sketched_text.drawn_text.Goals as goal

pub put_chart-requires-clause-drawn : goal.put_chart-requires-clause-drawn
put_chart-requires-clause-drawn c =
    subst (All (charts.IsDrawn c.args.window)) (sym c.deref.ensures.value) (c.in_ok-rows.ensures.drawn c.args.window c.requires.window)

pub returns : goal.returns
returns c =
    let w = c.args.window in
    let sketches = map sketch_as c.args.sketches.now in
    let rows = map charts.chart_row_view_of c.deref.result.now in
    let are : rows ≡ charted_from 0 sketches = ap (map charts.chart_row_view_of) c.deref.ensures.value ∙ c.in_ok-rows.ensures.rows in
    finished (λ v. v.items) c.into_text.result c.new-text.result c.put_chart.new.out _ c.new-text.ensures.text
    (as_text c.new-text.result c.put_chart.new.out _ _ (chart_made w c.cpus_of.result sketches rows c.cpus_of.ensures.cpus are) c.put_chart.ensures)
    c.into_text.ensures.text c.into_text.ensures.ok
