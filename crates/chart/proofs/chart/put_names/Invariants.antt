use Rattle.std.proofs.Common.{take}
use Rattle.run_figures.specs.Lines.{numbered_lines}
use Rattle.chart.specs.Pieces.{name_lines}
use Rattle.chart.specs.Rows.{chart_row_view_of}
use Rattle.draft.specs.Draft.{Adds}
use Rattle.chart.proofs.chart.put_names.Given as goal

abbrev pub invariant-loop-place : goal.invariant-loop-place
invariant-loop-place l = Adds l.initial.out l.out (numbered_lines (λ k r. name_lines l.sheet k (chart_row_view_of r)) 0 (take l.place l.rows))
