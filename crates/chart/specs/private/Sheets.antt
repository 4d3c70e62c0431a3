-- Sizes that fit.
use Rattle.std.specs.Prelude.{◌≤◌, ◌^◌}
use Rattle.chart_pieces.specs.Window.{IsWindow}
use Rattle.chart.specs.declared.sheet.Sheet.{Sheet}

pub record IsSheet (s : Sheet) : Type 0 where
  pub window : IsWindow s.window
  pub rows : s.rows ≤ 2 ^ 32
  pub height : s.size.height ≤ 34
  pub bar_top : s.size.bar_top ≤ 34
  pub middle : s.size.middle ≤ 34
  pub foot : s.size.foot ≤ 34
