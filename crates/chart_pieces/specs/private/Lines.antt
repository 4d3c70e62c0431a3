-- A task while its switches and its moments go by.
use Rattle.std.specs.Prelude.{ℕ, ◌≡◌, ◌≢◌, ◌<◌, ◌≤◌, ◌+◌, ◌==◌, min, length, drop, slice_index_or, true, if◌then◌else◌, ◌++◌, List, [], ◌∷◌, fold, filter, map, All, AllPairs, Option, Some, None}
use Rattle.domain_run.specs.Switch.{Switch}
use Rattle.chart_pieces.specs.declared.status.Moment.{Moment}
use Rattle.chart_pieces.specs.declared.row.Bar.{Bar}
use Rattle.chart_pieces.specs.declared.window.Window.{Window}
use Rattle.chart_pieces.specs.RowView.{RowView}
use Rattle.chart_pieces.specs.Window.{touches}
use Rattle.chart_pieces.specs.Bars.{bar_by, bars_in}
use Rattle.chart_pieces.specs.TaskStatus.{at_rest, after_turn}
use Rattle.chart_pieces.specs.Rows.{gap_by, marks_by}
use Rattle.chart_pieces.specs.private.LineView.{ChartLineView}
use Rattle.run_figures.specs.Places.{if_number}

abbrev pub line_without_bars : ℕ → ChartLineView
line_without_bars number = record {
  number = number;
  bars = [];
  status = at_rest;
  since = 0;
  gaps = [];
  marks = [];
}

-- BARS. A task that has a CPU keeps it to the end of the run, until the CPU switches again
abbrev pub bar_in : Window → Switch → ℕ → List Bar
bar_in w s end = if touches w s.time end then bar_by s end ∷ [] else []

-- one more, of the task that comes by a switch
abbrev pub with_bar : Window → Switch → ℕ → ChartLineView → ChartLineView
with_bar w s end l = record l { bars = l.bars ++ bar_in w s end }

abbrev pub with_bar_of : Option ℕ → Window → Switch → ℕ → ChartLineView → ChartLineView
with_bar_of None w s end l = l
with_bar_of (Some n) w s end l = if_number (λ l. l.number) n (with_bar w s end) l

-- a bar of this CPU lasts no longer than to the switch
abbrev pub stopped_by : Switch → Bar → Bar
stopped_by s b = if s.cpu == b.cpu then record b { stop = min b.stop s.time } else b

-- and stays only if it still has a part in the window
abbrev pub bars_stopped : Window → Switch → List Bar → List Bar
bars_stopped w s bars = filter (λ b. touches w b.start b.stop) (map (stopped_by s) bars)

abbrev pub with_stop : Window → Switch → ChartLineView → ChartLineView
with_stop w s l = record l { bars = bars_stopped w s l.bars }

-- of the task that had the CPU
abbrev pub with_stop_of : Option ℕ → Window → Switch → ChartLineView → ChartLineView
with_stop_of None w s l = l
with_stop_of (Some n) w s l = if_number (λ l. l.number) n (with_stop w s) l

-- of two bars of one CPU, the first ends by this time
abbrev pub EndInTurn : ℕ → List Bar → Type 0
EndInTurn time bars = AllPairs (λ a b. a.cpu ≡ b.cpu → a.stop ≤ time) bars

-- the bars of a line end in turn, and each has a part in the window
pub record AreDrawn (w : Window) (time : ℕ) (bars : List Bar) : Type 0 where
  pub in_turn : EndInTurn time bars
  pub shown : All (λ b. touches w b.start b.stop ≡ true) bars

-- the place of the last bar on a CPU
pub record IsLastOn (bars : List Bar) (cpu place : ℕ) : Type 0 where
  pub inside : place < length bars
  pub own : (d : Bar) → (slice_index_or bars place d).cpu ≡ cpu
  pub later : All (λ b. b.cpu ≢ cpu) (drop (place + 1) bars)

-- who comes by a switch, if its bar has a part in the window
abbrev pub drawn_next : Window → ℕ → Switch → Option ℕ
drawn_next w end s = if touches w s.time end then s.next else None

-- which task has a CPU, if its bar has a part in the window
abbrev pub holder_from : Window → ℕ → Option ℕ → ℕ → List Switch → Option ℕ
holder_from w end before cpu switches =
    fold (λ (who : Option ℕ) (s : Switch). if s.cpu == cpu then drawn_next w end s else who)
    before switches

abbrev pub holder : Window → ℕ → ℕ → List Switch → Option ℕ
holder w end cpu switches = holder_from w end None cpu switches

-- MOMENTS
abbrev pub bars_after : Window → Moment → ChartLineView → ChartLineView
bars_after w m l = record l {
  status = after_turn m.turn l.status;
  since = m.time;
  gaps = l.gaps ++ gap_by w l.status l.since m.time;
  marks = l.marks ++ marks_by w l.status m.time m.turn;
}

abbrev pub bars_if : Window → ChartLineView → Moment → ChartLineView
bars_if w l m = if_number (λ l. l.number) m.number (bars_after w m) l

abbrev pub bars_all : Window → List Moment → ChartLineView → ChartLineView
bars_all w ms l = fold (bars_if w) l ms

-- A ROW, where the run ends at this time
abbrev pub row_by : Window → ℕ → ChartLineView → RowView
row_by w time l = record {
  number = l.number;
  bars = l.bars;
  gaps = l.gaps ++ gap_by w l.status l.since time;
  marks = l.marks;
}

-- A LINE of a run that ends at this time, by these moments and the bars of these switches
abbrev pub drawn_line : Window → ℕ → List Moment → List Switch → ℕ → ChartLineView
drawn_line w time ms switches number = record (bars_all w ms (line_without_bars number)) {
  bars = bars_in w time switches number;
}
