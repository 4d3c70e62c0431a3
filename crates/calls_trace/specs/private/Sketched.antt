-- What is drawn of the runs of sections, each of which is drawn while it is made.
use Rattle.std.specs.Prelude.{ℕ, ◌≡◌, ◌+◌, ◌<◌, ◌≤◌, List, [], ◌∷◌, ◌++◌, slice_index_or, length, map, fold, max, sum_by, All}
use Rattle.domain_run.specs.declared.call.Call.{Call}
use Rattle.domain_run.specs.Domain.{IsLimit, empty_domain}
use Rattle.domain_run.specs.Happened.{logged_by_calls}
use Rattle.domain_run.specs.Run.{run_of}
use Rattle.calls_text.specs.SectionView.{SectionView}
use Rattle.calls_text.specs.Limits.{AreRead}
use Rattle.calls_text.specs.Spelling.{spelling}
use Rattle.calls_text.specs.Reader.{ReaderView, IsAfter}
use Rattle.chart_pieces.specs.declared.window.Span.{Span}
use Rattle.chart_pieces.specs.declared.window.Window.{Window}
use Rattle.chart_pieces.specs.RowView.{RowView}
use Rattle.chart_pieces.specs.Window.{window_of}
use Rattle.chart_pieces.specs.Rows.{rows_of}
use Rattle.chart.specs.Rows.{ChartRowView}
use Rattle.chart.specs.Chart.{chart_text}
use Rattle.switch_text.specs.Names.{name_of_task}
use Rattle.calls_trace.specs.declared.foreseen_text.ForeseenSection.{ForeseenSection}
use Rattle.calls_trace.specs.declared.streaming.Streaming.{Streaming}
use Rattle.calls_trace.specs.declared.sketch.Sketch.{Sketch}
use Rattle.calls_trace.specs.declared.sketching.Sketching.{Sketching}
use Rattle.calls_trace.specs.Charted.{chart_row_of}
use Rattle.calls_trace.specs.Replay.{calls_in_section, names_of, no_names}
use Rattle.calls_trace.specs.DomainEvents.{no_params, params_by_calls}
use Rattle.calls_trace.specs.private.Foreseen.{IsForeseen, all_ticks}
use Rattle.calls_trace.specs.private.Streaming.{LedView, figures_led}
use Rattle.limits.specs.Limits.{max_history}

-- ---- a run that is drawn while it is made

-- as an accounting would take it
abbrev pub streamed_as : Sketching → Streaming
streamed_as s = record { run = s.run; accounting = s.drawing.streamed; calls = s.calls }

-- what no call of its section changes: the window, and the tasks that its calls ask to admit
pub record AskedView : Type 0 where
  pub window : Window
  pub tasks : List ℕ
  pub numbers : List ℕ

abbrev pub asked_in : Sketching → AskedView
asked_in s = record {
  window = s.drawing.window;
  tasks = s.drawing.streamed.tasks;
  numbers = s.numbers.keys;
}

-- ---- what was drawn of it

-- the names of its tasks, its CPUs, and the rows of the tasks that were admitted
pub record SketchView : Type 0 where
  pub names : ℕ → List ℕ
  pub cpus : ℕ
  pub rows : List RowView

abbrev pub no_row : RowView
no_row = record { number = 0; bars = []; gaps = []; marks = [] }

-- the row in a place
abbrev pub row_in : List RowView → ℕ → RowView
row_in rows place = slice_index_or rows place no_row

abbrev pub sketch_as : Sketch → SketchView
sketch_as s = record {
  names = name_of_task s.names;
  cpus = s.cpus;
  rows = map (row_in s.rows.items) s.places.items;
}

-- of what calls lead to
abbrev pub sketch_led : Window → LedView → SketchView
sketch_led window w = record {
  names = w.names;
  cpus = w.domain.cpus;
  rows = rows_of window (figures_led w);
}

-- ---- sections that are read whole before their calls are made

-- the CPUs and the limit of a section, and its calls
pub record AheadView : Type 0 where
  pub cpus : ℕ
  pub limit : ℕ
  pub calls : List Call

abbrev pub ahead_as : ForeseenSection → AheadView
ahead_as f = record { cpus = f.cpus; limit = f.limit; calls = f.foreseen.calls }

abbrev pub ahead_in : SectionView → AheadView
ahead_in s = record { cpus = s.cpus; limit = s.limit; calls = calls_in_section s }

-- what the calls lead to
abbrev pub led_ahead : AheadView → LedView
led_ahead a = record {
  domain = run_of a.cpus a.limit a.calls;
  names = names_of (empty_domain a.cpus a.limit) a.calls no_names;
  given = params_by_calls (empty_domain a.cpus a.limit) a.calls no_params;
  happened = logged_by_calls (empty_domain a.cpus a.limit) a.calls;
}

abbrev pub sketch_ahead : Window → AheadView → SketchView
sketch_ahead window a = sketch_led window (led_ahead a)

-- it can be run
pub record IsReadyToRun (f : ForeseenSection) : Type 0 where
  pub cpus : (0 < f.cpus) × (f.cpus ≤ 64)
  pub limit : IsLimit f.limit
  pub foreseen : IsForeseen f.foreseen
  pub few : length f.foreseen.calls ≤ max_history

-- the sections that were read so far
pub record AreForeseenSoFar (text : List ℕ) (reader : ReaderView) (fs : List ForeseenSection)
    : Type 0 where
  pub done : List SectionView
  pub following : IsAfter text done reader
  pub same : map ahead_as fs ≡ map ahead_in done
  pub ready : All IsReadyToRun fs

-- the text spells these sections
pub record AreForeseen (text : List ℕ) (fs : List ForeseenSection) : Type 0 where
  pub sections : List SectionView
  pub read : AreRead sections
  pub spelled : text ≡ spelling sections
  pub same : map ahead_as fs ≡ map ahead_in sections
  pub ready : All IsReadyToRun fs

-- ---- the chart of several

-- the first domain has the first CPUs of the machine, the second the next ones
abbrev pub charted_from : ℕ → List SketchView → List ChartRowView
charted_from base [] = []
charted_from base (s ∷ ss) =
    map (chart_row_of s.names base) s.rows ++ charted_from (base + s.cpus) ss

abbrev pub end_ahead : List AheadView → ℕ
end_ahead ahead = fold (λ end a. max end (all_ticks a.calls)) 0 ahead

abbrev pub cpus_sketched : List SketchView → ℕ
cpus_sketched ss = sum_by (λ s. s.cpus) ss

abbrev pub chart_sketched : Window → List SketchView → List ℕ
chart_sketched window ss = chart_text window (cpus_sketched ss) (charted_from 0 ss)

unfoldable pub chart_ahead : Span → List AheadView → List ℕ
chart_ahead span ahead = chart_sketched (window_of span (end_ahead ahead))
    (map (sketch_ahead (window_of span (end_ahead ahead))) ahead)
