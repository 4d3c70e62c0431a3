-- What a contract sees of a task while its switches and its moments go by.
use Rattle.std.specs.Prelude.{ℕ, List}
use Rattle.chart_pieces.specs.declared.status.TaskStatus.{TaskStatus}
use Rattle.chart_pieces.specs.declared.row.Bar.{Bar}
use Rattle.chart_pieces.specs.declared.row.Gap.{Gap}
use Rattle.chart_pieces.specs.declared.row.Mark.{Mark}

-- its bars; how it stands, and since when; its gaps and marks so far
pub record ChartLineView : Type 0 where
  pub number : ℕ
  pub bars : List Bar
  pub status : TaskStatus
  pub since : ℕ
  pub gaps : List Gap
  pub marks : List Mark
