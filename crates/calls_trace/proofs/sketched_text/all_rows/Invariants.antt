use Rattle.std.proofs.Common.{◌≡◌, ◌*◌, ◌≤◌, ◌++◌, drop, length, map}
use Rattle.std.specs.Prelude.{All}
use Rattle.chart_pieces.specs.declared.window.Window.{Window}
use Rattle.chart.specs.Rows as charts
use Rattle.calls_trace.specs.private.Sketched.{charted_from, sketch_as}
use Rattle.calls_trace.proofs.sketched_text.all_rows.Given as goal

-- the rows so far, and those of the runs that are left
abbrev pub invariant-loop-one : goal.invariant-loop-one
invariant-loop-one l = record {
  rows : map charts.chart_row_view_of l.all.items ++ charted_from l.base (map sketch_as (drop l.one-index l.sketches)) ≡ charted_from 0 (map sketch_as l.sketches);
  drawn : (w : Window) → All (λ s. s.window ≡ w) l.sketches → All (charts.IsDrawn w) l.all.items;
  few : length l.all.items ≤ 65536 * l.one-index;
  inside : l.base ≤ 64 * l.one-index;
}
