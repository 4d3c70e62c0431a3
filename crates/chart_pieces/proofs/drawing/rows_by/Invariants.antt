use Rattle.std.proofs.Common.{◌≡◌, ◌++◌, map, length}
use Rattle.std.specs.Prelude.{reverse}
use Rattle.chart_pieces.specs.private.Lines.{row_by}
use Rattle.chart_pieces.proofs.drawing.rows_by.Given as goal

-- those that are closed, and those that are left
abbrev pub invariant-loop-line : goal.invariant-loop-line
invariant-loop-line l = l.all.items ++ map (row_by l.window l.end) (reverse l.table.items) ≡ map (row_by l.window l.end) (reverse l.initial.table.items)

abbrev pub decreases-loop-line : goal.decreases-loop-line
decreases-loop-line l = length l.table.items
