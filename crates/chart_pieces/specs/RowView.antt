-- What a contract sees of a row.
use Rattle.std.specs.Prelude.{ℕ, List}
use Rattle.chart_pieces.specs.declared.row.Bar.{Bar}
use Rattle.chart_pieces.specs.declared.row.Gap.{Gap}
use Rattle.chart_pieces.specs.declared.row.Mark.{Mark}

-- the task's number; where it ran; where it wanted a CPU or was throttled; its marks
pub record RowView : Type 0 where
  pub number : ℕ
  pub bars : List Bar
  pub gaps : List Gap
  pub marks : List Mark
