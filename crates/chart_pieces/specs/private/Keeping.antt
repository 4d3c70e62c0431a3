-- What a drawing keeps of the run that it streamed.
use Rattle.std.specs.Prelude.{ℕ, ◌≡◌, ◌≤◌, List, map, All, Option}
use Rattle.std.specs.List.{range_with_len}
use Rattle.past.specs.Past.{items_of_past}
use Rattle.chart_pieces.specs.declared.drawing.Streamed.{Streamed}
use Rattle.chart_pieces.specs.declared.window.Window.{Window}
use Rattle.chart_pieces.specs.Drawing.{DrawingView}
use Rattle.chart_pieces.specs.Moments.{moments}
use Rattle.chart_pieces.specs.private.LineView.{ChartLineView}
use Rattle.chart_pieces.specs.private.Lines.{holder, drawn_line}

abbrev pub drawing_view_of : Window → Streamed → List ℕ → DrawingView
drawing_view_of w h tasks = record {
  window = w;
  streamed = record {
    cpus = h.cpus;
    time = h.time;
    tasks = tasks;
    happened = items_of_past h.happened;
    switches = items_of_past h.switches;
  };
}

-- its lines and the tasks that have the CPUs are what the definitions make of all that was streamed
pub record IsDrawingKept (d : DrawingView) (lines : List ChartLineView) (holders : List (Option ℕ))
    : Type 0 where
  pub lines_are : lines ≡ map (drawn_line d.window d.streamed.time
      (moments d.streamed.happened d.streamed.switches) d.streamed.switches) d.streamed.tasks
  pub holders_are : holders ≡ map (λ cpu. holder d.window d.streamed.time cpu d.streamed.switches)
      (range_with_len 0 d.streamed.cpus)
  -- the switches are within the run
  pub past : All (λ s. s.time ≤ d.streamed.time) d.streamed.switches
