use Rattle.std.proofs.Common.{◌≡◌, ◌+◌, ◌≤◌, ◌++◌, length, map, take, vec_capacity}
use Rattle.std.specs.Prelude.{All}
use Rattle.switch_text.specs.Names.{name_of_task}
use Rattle.chart.specs.Rows.{chart_row_view_of, IsDrawn}
use Rattle.calls_trace.specs.Charted.{chart_row_of}
use Rattle.calls_trace.specs.private.Sketched.{row_in}
use Rattle.calls_trace.proofs.sketch.Sketch.push_rows.Given as goal

abbrev pub invariant-loop-place : goal.invariant-loop-place
invariant-loop-place l = record {
  rows : map chart_row_view_of l.all.items ≡ map chart_row_view_of l.fn.all.items ++ map (λ p. chart_row_of (name_of_task l.self.names) l.base (row_in l.self.rows.items p)) (take l.place-index l.place-items);
  drawn : All (IsDrawn l.self.window) l.fn.all.items → All (IsDrawn l.self.window) l.all.items;
  count : length l.all.items ≡ length l.fn.all.items + l.place-index;
  room : length l.fn.all.items + length l.place-items ≤ vec_capacity l.all;
}
