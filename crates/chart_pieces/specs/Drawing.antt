-- A run that is drawn while it is streamed piece by piece (own).
use Rattle.std.specs.Prelude.{List}
use Rattle.domain_run.specs.declared.happened.Happened.{Happened}
use Rattle.domain_run.specs.Switch.{Switch}
use Rattle.run_figures.specs.Accounting.{AccountingView, with_piece}
use Rattle.chart_pieces.specs.declared.window.Window.{Window}

-- the window that is drawn; the CPUs, the end and the tasks of the run, and all that was streamed
pub record DrawingView : Type 0 where
  pub window : Window
  pub streamed : AccountingView

-- with one piece more
abbrev pub drawn_on : DrawingView → List Happened → List Switch → DrawingView
drawn_on d happened switches = record d { streamed = with_piece d.streamed happened switches }
