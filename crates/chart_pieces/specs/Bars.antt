-- Bars: where a task ran, read off the switches (own).
use Rattle.std.specs.Prelude.{ℕ, ◌-◌, if◌then◌else◌, List, [], ◌∷◌, ◌++◌, filter}
use Rattle.domain_run.specs.Switch.{Switch}
use Rattle.edf_pick.specs.Places.{is_task}
use Rattle.run_figures.specs.Stays.{until}
use Rattle.chart_pieces.specs.declared.row.Bar.{Bar}
use Rattle.chart_pieces.specs.declared.window.Window.{Window}
use Rattle.chart_pieces.specs.Window.{touches}

-- from a switch to the next one of its CPU
abbrev pub bar_by : Switch → ℕ → Bar
bar_by s next = record { cpu = s.cpu; start = s.time; stop = next }

-- each switch by which the task comes is a bar
abbrev pub bars_of : ℕ → List Switch → ℕ → List Bar
bars_of time [] number = []
bars_of time (s ∷ ss) number =
    (if is_task number s.next then bar_by s (until time s.cpu ss) ∷ [] else [])
    ++ bars_of time ss number

-- those of which a part is in the window, each with its own times
abbrev pub bars_in : Window → ℕ → List Switch → ℕ → List Bar
bars_in w time switches number =
    filter (λ b. touches w b.start b.stop) (bars_of time switches number)

abbrev pub us : Bar → ℕ
us b = b.stop - b.start
