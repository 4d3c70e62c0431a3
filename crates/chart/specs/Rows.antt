-- What a contract sees of a row of the chart.
use Rattle.std.specs.Prelude.{ℕ, List}
use Rattle.chart_pieces.specs.declared.window.Window.{Window}
use Rattle.chart_pieces.specs.RowView.{RowView}
use Rattle.chart_pieces.specs.Laws.{AreSeen}
use Rattle.chart.specs.declared.row.ChartRow.{ChartRow}

-- the name of the task, the CPU of the machine that is CPU 0 of its domain, and what is drawn of it
pub record ChartRowView : Type 0 where
  pub name : List ℕ
  pub base : ℕ
  pub row : RowView

abbrev pub chart_row_view_of : ChartRow → ChartRowView
chart_row_view_of r = record { name = r.name.now; base = r.base; row = r.row.now }

-- each of its bars and gaps has a part in the window, and each mark stands there
abbrev pub IsDrawn : Window → ChartRow → Type 0
IsDrawn w r = AreSeen w r.row.now
