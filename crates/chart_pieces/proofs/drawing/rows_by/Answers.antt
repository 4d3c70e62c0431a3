use Rattle.std.proofs.Common.{◌≡◌, List, [], ◌++◌, map, sym, ap, ◌∙◌, arith, append-nil}
use Rattle.std.specs.Prelude.{reverse}
use Rattle.std.proofs.lemmas.List.{nil_from_length, reverse-reverse}
use Rattle.chart_pieces.specs.private.LineView.{ChartLineView}
use Rattle.chart_pieces.specs.private.Lines.{row_by}
use Rattle.chart_pieces.proofs.drawing.rows_by.Goals as goal

pub returns : goal.returns
returns c =
    let w = c.args.window.now in
    let end = c.args.end in
    let none : c.loop-line.table.items ≡ [] = nil_from_length c.loop-line.table.items (omega (arith, c.loop-line.table.ok, c.in_default.ensures.cases.0)) in
    sym (append-nil c.loop-line.all.items)
    ∙ ap (λ (ls : List ChartLineView). c.loop-line.all.items ++ map (row_by w end) (reverse ls)) (sym none)
    ∙ c.loop-line.invariant
    ∙ ap (λ (ls : List ChartLineView). map (row_by w end) (reverse ls)) c.reverse.ensures.items
    ∙ ap (map (row_by w end)) (reverse-reverse c.args.table.items)
