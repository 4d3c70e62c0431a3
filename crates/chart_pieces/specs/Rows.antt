-- What is drawn of each task (own).
use Rattle.std.specs.Prelude.{ℕ, ◌&&◌, Bool, true, false, not, if◌then◌else◌, List, [], ◌∷◌, ◌++◌, map}
use Rattle.domain_run.specs.declared.happened.What.{What}
use Rattle.domain_run.specs.declared.happened.What.TheVariants.{JobEnds, NextReleased, Spent, Cut, Replenished, Released, WokenSpent}
use Rattle.domain_run.specs.declared.switch.PrevState.{PrevState}
use Rattle.domain_run.specs.declared.switch.PrevState.TheVariants.{Running, Preempted, Sleeping, Dead}
use Rattle.run_figures.specs.Runs.{RunView}
use Rattle.chart_pieces.specs.declared.status.Turn.{Turn}
use Rattle.chart_pieces.specs.declared.status.Turn.TheVariants.{Happens, Leaves, Comes}
use Rattle.chart_pieces.specs.declared.status.Moment.{Moment}
use Rattle.chart_pieces.specs.declared.status.TaskStatus.{TaskStatus}
use Rattle.chart_pieces.specs.declared.row.Gap.{Gap}
use Rattle.chart_pieces.specs.declared.row.Mark.{Mark}
use Rattle.chart_pieces.specs.declared.row.Sign.{Sign}
use Rattle.chart_pieces.specs.declared.row.Sign.TheVariants.{Released as ReleasedAt, Due as DueAt, Ended as EndedAt}
use Rattle.chart_pieces.specs.declared.window.Window.{Window}
use Rattle.chart_pieces.specs.RowView.{RowView}
use Rattle.chart_pieces.specs.Window.{touches, holds}
use Rattle.chart_pieces.specs.Bars.{bars_in}
use Rattle.chart_pieces.specs.Moments.{moments_of}
use Rattle.chart_pieces.specs.TaskStatus.{at_rest, after_turn, is_shown}

-- GAPS: how a task stands from one of its moments to the next
abbrev pub gap_by : Window → TaskStatus → ℕ → ℕ → List Gap
gap_by w s start stop =
    if is_shown s && touches w start stop
    then record { throttled = s.throttled; start = start; stop = stop } ∷ [] else []

-- in a run that ends at this time, of a task that stands so since a time
abbrev pub gaps_from : Window → ℕ → TaskStatus → ℕ → List Moment → List Gap
gaps_from w time s since [] = gap_by w s since time
gaps_from w time s since (m ∷ ms) =
    gap_by w s since m.time ++ gaps_from w time (after_turn m.turn s) m.time ms

-- MARKS
abbrev pub mark_in : Window → Sign → ℕ → List Mark
mark_in w sign time = if holds w time then record { sign = sign; time = time } ∷ [] else []

-- a job is marked at its release and at its deadline
abbrev pub job_marks : Window → ℕ → ℕ → List Mark
job_marks w release deadline = mark_in w ReleasedAt release ++ mark_in w DueAt deadline

abbrev pub marks_by_logged : Window → ℕ → What → List Mark
marks_by_logged w time JobEnds = []
marks_by_logged w time (NextReleased deadline) = job_marks w time deadline
marks_by_logged w time (Spent deadline) = []
marks_by_logged w time Cut = mark_in w EndedAt time
marks_by_logged w time (Replenished deadline) = []
marks_by_logged w time (Released deadline) = job_marks w time deadline
marks_by_logged w time (WokenSpent deadline) = []

-- the CPU is taken from a task that has ended
abbrev pub is_dead : PrevState → Bool
is_dead Running = false
is_dead Preempted = false
is_dead Sleeping = false
is_dead Dead = true

-- the end of a task that was cut is marked where it was cut
abbrev pub end_marks : Window → TaskStatus → ℕ → PrevState → List Mark
end_marks w s time state = if is_dead state && not s.cut then mark_in w EndedAt time else []

abbrev pub marks_by : Window → TaskStatus → ℕ → Turn → List Mark
marks_by w s time (Happens what) = marks_by_logged w time what
marks_by w s time (Leaves cpu state) = end_marks w s time state
marks_by w s time (Comes cpu) = []

abbrev pub marks_from : Window → TaskStatus → List Moment → List Mark
marks_from w s [] = []
marks_from w s (m ∷ ms) = marks_by w s m.time m.turn ++ marks_from w (after_turn m.turn s) ms

-- A ROW
abbrev pub row_of : Window → RunView → ℕ → RowView
row_of w run number = record {
  number = number;
  bars = bars_in w run.time run.switches number;
  gaps = gaps_from w run.time at_rest 0 (moments_of run.happened run.switches number);
  marks = marks_from w at_rest (moments_of run.happened run.switches number);
}

-- of each task that was ever admitted
abbrev pub rows_of : Window → RunView → List RowView
rows_of w run = map (λ t. row_of w run t.number) run.tasks
