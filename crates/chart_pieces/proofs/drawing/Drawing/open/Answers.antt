use Rattle.std.proofs.Common.{map, sym, ap, ◌∙◌}
use Rattle.run_figures.specs.declared.run.Admitted.{Admitted}
use Rattle.chart_pieces.specs.private.Lines.{line_without_bars}
use Rattle.chart_pieces.proofs.Moments.{map-map}
use Rattle.chart_pieces.proofs.Streaming.{nothing_drawn}
use Rattle.chart_pieces.proofs.drawing.Drawing.open.Goals as goal

pub invariant_of-result : goal.invariant_of-result
invariant_of-result c =
    nothing_drawn _ _ _ c.new.ensures c.new-2.ensures
    (c.in_ok-table.ensures.lines ∙ sym (map-map line_without_bars (λ (t : Admitted). t.number) c.args.tasks.now) ∙ ap (map line_without_bars) (sym c.in_ok-places.ensures))
    c.in_ok-table.ensures.holders
