use Rattle.std.proofs.Common.{ℕ, List, All, map, sym, ap, ◌∙◌, subst}
use Rattle.std.proofs.lemmas.List.{length-map}
use Rattle.chart_pieces.specs.declared.window.Window.{Window}
use Rattle.chart.specs.declared.sheet.Sheet.{Sheet}
use Rattle.chart.specs.Axis.{ticks_of}
use Rattle.chart.specs.Sizes.{sheet_of}
use Rattle.chart.specs.Rows.{chart_row_view_of, IsDrawn}
use Rattle.chart.specs.Chart.{chart_of}
use Rattle.draft.proofs.CallerLemmas.{as_text}
use Rattle.chart.proofs.chart.put_chart.Goals as goal

pub returns-in-Ok : goal.returns-in-Ok
returns-in-Ok c =
    let window = c.args.window in
    let rows = map chart_row_view_of c.args.rows.now in
    as_text c.args.out.now c.put_chart_of.new.out _ _
    (ap (λ (ticks : List ℕ). chart_of c.sheet_of-sheet.result ticks rows) (c.deref.ensures.value ∙ c.in-Ok.ensures.ticks)
    ∙ ap (λ (s : Sheet). chart_of s (ticks_of window) rows) c.sheet_of-sheet.ensures.sheet
    ∙ ap (λ n. chart_of (sheet_of window c.args.cpus n) (ticks_of window) rows) (sym (length-map c.args.rows.now chart_row_view_of)))
    c.put_chart_of.ensures

pub put_chart_of-requires-clause-drawn : goal.put_chart_of-requires-clause-drawn
put_chart_of-requires-clause-drawn c =
    subst (λ (w : Window). All (IsDrawn w) c.args.rows.now) (sym (ap (λ (s : Sheet). s.window) c.sheet_of-sheet.ensures.sheet)) c.requires.drawn
