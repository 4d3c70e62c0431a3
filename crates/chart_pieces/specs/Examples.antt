-- Worked rows: what is drawn of runs.
use Rattle.std.specs.Prelude.{ℕ, ◌≡◌, true, false, List, [], ◌∷◌, Option, Some, None, refl, sum_by}
use Rattle.domain_run.specs.declared.happened.What.{What}
use Rattle.domain_run.specs.declared.happened.What.TheVariants.{JobEnds, NextReleased, Spent, Cut, Replenished, Released, WokenSpent}
use Rattle.domain_run.specs.declared.happened.Happened.{Happened}
use Rattle.domain_run.specs.Switch.{Switch}
use Rattle.domain_run.specs.declared.switch.PrevState.{PrevState}
use Rattle.domain_run.specs.declared.switch.PrevState.TheVariants.{Running, Preempted, Dead}
use Rattle.run_figures.specs.Runs.{RunView}
use Rattle.run_figures.specs.Stays.{cpu_us}
use Rattle.chart_pieces.specs.declared.row.Bar.{Bar}
use Rattle.chart_pieces.specs.declared.row.Gap.{Gap}
use Rattle.chart_pieces.specs.declared.row.Mark.{Mark}
use Rattle.chart_pieces.specs.declared.row.Sign.{Sign}
use Rattle.chart_pieces.specs.declared.row.Sign.TheVariants.{Released as ReleasedAt, Due as DueAt, Ended as EndedAt}
use Rattle.chart_pieces.specs.declared.window.Window.{Window}
use Rattle.chart_pieces.specs.Bars.{us}
use Rattle.chart_pieces.specs.Rows.{row_of}

-- to a task at a time
abbrev at : ℕ → ℕ → What → Happened
at time number what = record { time = time; what = what; number = number; cpu = 0 }

abbrev switch : ℕ → ℕ → Option ℕ → PrevState → Option ℕ → Switch
switch time cpu prev state next =
    record { time = time; prev = prev; next = next; cpu = cpu; state = state }

abbrev run : ℕ → ℕ → List Happened → List Switch → RunView
run cpus time happened switches =
    record { cpus = cpus; time = time; tasks = []; happened = happened; switches = switches }

abbrev window : ℕ → ℕ → Window
window from to = record { from = from; to = to }

abbrev bar : ℕ → ℕ → ℕ → Bar
bar cpu start stop = record { cpu = cpu; start = start; stop = stop }

abbrev throttle : ℕ → ℕ → Gap
throttle start stop = record { throttled = true; start = start; stop = stop }

abbrev wait : ℕ → ℕ → Gap
wait start stop = record { throttled = false; start = start; stop = stop }

abbrev mark : Sign → ℕ → Mark
mark sign time = record { sign = sign; time = time }

-- THROTTLED INSIDE A JOB: 2 us in each 5, and 4 us of work
abbrev throttled : RunView
throttled = run 1 11
    (at 0 1 (Released 5) ∷ at 2 1 (Spent 5) ∷ at 5 1 (Replenished 10) ∷ at 7 1 JobEnds ∷ [])
    (switch 0 0 None Running (Some 1) ∷ switch 2 0 (Some 1) Preempted None
    ∷ switch 5 0 None Running (Some 1) ∷ switch 7 0 (Some 1) Dead None ∷ [])

its_row : row_of (window 0 11) throttled 1 ≡ record {
  number = 1;
  bars = bar 0 0 2 ∷ bar 0 5 7 ∷ [];
  gaps = throttle 2 5 ∷ [];
  marks = mark ReleasedAt 0 ∷ mark DueAt 5 ∷ mark EndedAt 7 ∷ [];
}
its_row = refl

its_time : sum_by us ((row_of (window 0 11) throttled 1).bars) ≡ cpu_us 11 throttled.switches 1
its_time = refl

-- A PART of it: each bar has its own times, and what ends where the window begins is not in it
its_part : row_of (window 2 6) throttled 1 ≡ record {
  number = 1;
  bars = bar 0 5 7 ∷ [];
  gaps = throttle 2 5 ∷ [];
  marks = mark DueAt 5 ∷ [];
}
its_part = refl

-- WANTING A CPU: task 2 is released at 0 and waits for task 1 twice. At 4 task 1 is throttled, and
-- both leave their CPU in the same state
abbrev two : RunView
two = run 1 9
    (at 0 1 (Released 6) ∷ at 0 2 (Released 9) ∷ at 4 1 (Spent 6) ∷ at 6 1 (Replenished 12) ∷ [])
    (switch 0 0 None Running (Some 1) ∷ switch 4 0 (Some 1) Preempted (Some 2)
    ∷ switch 6 0 (Some 2) Preempted (Some 1) ∷ [])

first_row : row_of (window 0 12) two 1 ≡ record {
  number = 1;
  bars = bar 0 0 4 ∷ bar 0 6 9 ∷ [];
  gaps = throttle 4 6 ∷ [];
  marks = mark ReleasedAt 0 ∷ mark DueAt 6 ∷ [];
}
first_row = refl

second_row : row_of (window 0 12) two 2 ≡ record {
  number = 2;
  bars = bar 0 4 6 ∷ [];
  gaps = wait 0 4 ∷ wait 6 9 ∷ [];
  marks = mark ReleasedAt 0 ∷ mark DueAt 9 ∷ [];
}
second_row = refl

-- MIGRATED: it comes to CPU 0 at the time at which it leaves CPU 1, and waits at no time
moved : row_of (window 0 9) (run 2 9
    (at 0 1 (Released 9) ∷ [])
    (switch 0 1 None Running (Some 1) ∷ switch 3 0 None Running (Some 1)
    ∷ switch 3 1 (Some 1) Preempted (Some 2) ∷ [])) 1 ≡ record {
      number = 1;
      bars = bar 1 0 3 ∷ bar 0 3 9 ∷ [];
      gaps = [];
      marks = mark ReleasedAt 0 ∷ mark DueAt 9 ∷ [];
    }
moved = refl

-- A LATE TIMER releases the next job at the end of this one; a job that is cut ends once
next_job : row_of (window 0 20) (run 1 20
    (at 0 1 (Released 8) ∷ at 6 1 JobEnds ∷ at 6 1 (NextReleased 14) ∷ at 9 1 Cut ∷ [])
    (switch 0 0 None Running (Some 1) ∷ switch 9 0 (Some 1) Dead None ∷ [])) 1 ≡ record {
      number = 1;
      bars = bar 0 0 9 ∷ [];
      gaps = [];
      marks = mark ReleasedAt 0 ∷ mark DueAt 8 ∷ mark ReleasedAt 6 ∷ mark DueAt 14 ∷ mark EndedAt 9
          ∷ [];
    }
next_job = refl

-- IT WAKES WITHOUT BUDGET: it is throttled from its release on, up to the end of the run
woken : row_of (window 0 20) (run 1 7
    (at 3 1 (Released 8) ∷ at 3 1 (WokenSpent 9) ∷ []) []) 1 ≡ record {
      number = 1;
      bars = [];
      gaps = throttle 3 7 ∷ [];
      marks = mark ReleasedAt 3 ∷ mark DueAt 8 ∷ [];
    }
woken = refl
