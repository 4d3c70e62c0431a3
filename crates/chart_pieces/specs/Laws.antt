-- Laws of the rows.
use Rattle.std.specs.Prelude.{ℕ, ◌≡◌, ◌<◌, ◌≤◌, All, sum_by}
use Rattle.run_figures.specs.Runs.{RunView}
use Rattle.run_figures.specs.Stays.{cpu_us}
use Rattle.chart_pieces.specs.declared.window.Window.{Window}
use Rattle.chart_pieces.specs.RowView.{RowView}
use Rattle.chart_pieces.specs.Bars.{us}

-- the bars of a task, over the whole run, sum to its CPU time in the summary
abbrev pub BarsAreAllCpuTime : RunView → RowView → Type 0
BarsAreAllCpuTime run row = sum_by us row.bars ≡ cpu_us run.time run.switches row.number

-- a bar and a gap have a length, and a part in the window
abbrev pub IsSeen : Window → ℕ → ℕ → Type 0
IsSeen w start stop = (start < stop) × (start < w.to) × (w.from < stop)

pub record AreSeen (w : Window) (row : RowView) : Type 0 where
  pub bars : All (λ b. IsSeen w b.start b.stop) row.bars
  pub gaps : All (λ g. IsSeen w g.start g.stop) row.gaps
  pub marks : All (λ m. (w.from ≤ m.time) × (m.time ≤ w.to)) row.marks
