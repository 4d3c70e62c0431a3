-- The table of a comparison, as a text (own).
use Rattle.std.specs.Prelude.{ℕ, ◌/◌, ◌%◌, Bool, true, false, List, [], ◌∷◌, ◌++◌, Option, Some, None, codes, decimal}
use Rattle.draft.specs.Columns.{right, column, zeros_right}
use Rattle.one_line.specs.Shown.{shown_bytes}
use Rattle.compare_report.specs.declared.line.Spread.{Spread}
use Rattle.compare_report.specs.declared.line.Stretch.{Stretch}
use Rattle.compare_report.specs.declared.line.Shift.{Shift}
use Rattle.compare_report.specs.declared.line.Row.{Row}
use Rattle.compare_report.specs.declared.line.Place.{Place}
use Rattle.compare_report.specs.declared.tally.Tally.{Tally}

-- microseconds as seconds, with six digits behind the point
abbrev pub seconds_text : ℕ → List ℕ
seconds_text us = decimal (us / 1000000) ++ (46 ∷ zeros_right 6 (decimal (us % 1000000)))

-- ---- the shift

abbrev pub sign : Bool → List ℕ
sign true = codes "-"
sign false = []

-- `shift 1705.992138 s`: how far the recording's clock is ahead, or behind
abbrev pub shift_line : Shift → List ℕ
shift_line s = codes "shift " ++ (sign s.behind ++ (seconds_text s.us ++ codes " s\n"))

-- ---- a row

-- a half of the distances is at most the first, 95 of 100 at most the second, and all at most the
-- third; dashes where nothing matched
abbrev pub spread_columns : ℕ → Option Spread → List ℕ
spread_columns width None = column width (codes "-")
    ++ (column 9 (codes "-") ++ column 9 (codes "-"))
spread_columns width (Some s) =
    column width (decimal s.half) ++ (column 9 (decimal s.most) ++ column 9 (decimal s.max))

abbrev pub table_header : List ℕ
table_header = codes
    "#          task   runs recorded matched  start_p50 start_p95 start_max   end_p50   end_p95   end_max    cpu_us rec_cpu_us\n"

-- how many runs: of the model, recorded, matched
abbrev pub run_columns : Row → List ℕ
run_columns r =
    column 6 (decimal r.runs) ++ (column 8 (decimal r.recorded) ++ column 7 (decimal r.matched))

-- CPU time: of the model, recorded
abbrev pub cpu_columns : Row → List ℕ
cpu_columns r = column 9 (decimal r.cpu) ++ column 10 (decimal r.recorded_cpu)

abbrev pub row_line : Row → List ℕ
row_line r =
    right 15 (shown_bytes r.name.now)
    ++ (run_columns r
    ++ (spread_columns 10 r.starts ++ (spread_columns 9 r.ends ++ (cpu_columns r ++ codes "\n"))))

-- ---- the total

-- `148 of 150 runs`: how many of the model's runs matched, in all tasks
abbrev pub tally_text : Tally → List ℕ
tally_text t = decimal t.matched ++ (codes " of " ++ (decimal t.runs ++ codes " runs"))

-- `matched 148 of 150 runs`
abbrev pub total_line : Tally → List ℕ
total_line t = codes "matched " ++ (tally_text t ++ codes "\n")

-- ---- the CPUs

-- `same cpu 124 of 145`: how many of the matched runs were on the same CPU in both texts
abbrev pub cpus_line : ℕ → ℕ → List ℕ
cpus_line same matched =
    codes "same cpu " ++ (decimal same ++ (codes " of " ++ (decimal matched ++ codes "\n")))

-- ---- the first differences

abbrev pub stretch_text : Stretch → List ℕ
stretch_text s = seconds_text s.start ++ (codes " to " ++ (seconds_text s.«end» ++ codes " s"))

abbrev pub place_text : Place → List ℕ
place_text p =
    decimal p.number
    ++ (codes " of " ++ (shown_bytes p.name.now ++ (codes ", " ++ stretch_text p.run)))

abbrev pub nearest_text : Option Stretch → List ℕ
nearest_text None = codes ", and nothing was recorded of this task\n"
nearest_text (Some s) = codes ", nearest recorded " ++ (stretch_text s ++ codes "\n")

-- the first run of the model that nothing recorded matches
abbrev pub missing_line : Place → Option Stretch → List ℕ
missing_line p nearest = codes "first difference: model run "
    ++ (place_text p ++ nearest_text nearest)

-- the first recorded run that matches none of the model
abbrev pub other_line : Place → List ℕ
other_line p = codes "first difference: recorded run " ++ (place_text p ++ codes "\n")

abbrev pub no_difference : List ℕ
no_difference = codes "first difference: none\n"
