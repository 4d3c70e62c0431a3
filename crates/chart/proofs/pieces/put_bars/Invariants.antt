use Rattle.std.proofs.Common.{take}
use Rattle.std.specs.Prelude.{flat_map}
use Rattle.chart.specs.Pieces.{bar_line}
use Rattle.chart.specs.Rows.{chart_row_view_of}
use Rattle.draft.specs.Draft.{Adds}
use Rattle.chart.proofs.pieces.put_bars.Given as goal

abbrev pub invariant-loop-bar : goal.invariant-loop-bar
invariant-loop-bar l = Adds l.initial.out l.out (flat_map (bar_line l.sheet l.place (chart_row_view_of l.row)) (take l.bar-index l.bars))
