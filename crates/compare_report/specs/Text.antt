-- The text of a report (own): the shift, a row for each task, the total, and the first differences.
use Rattle.std.specs.Prelude.{◌≡◌, ℕ, nat_lt, Bool, true, false, if◌then◌else◌, List, [], ◌++◌, map, sum_by, slice_get, Option, Some, None}
use Rattle.std.specs.Option.{option_map, option_and_then}
use Rattle.std.specs.List.{flat_map}
use Rattle.trace_compare.specs.declared.clock.ClockShift.{ClockShift}
use Rattle.trace_compare.specs.Differences.{distance}
use Rattle.compare_report.specs.declared.line.Shift.{Shift}
use Rattle.compare_report.specs.declared.line.Place.{Place}
use Rattle.compare_report.specs.Table.{shift_line, table_header, row_line, total_line, cpus_line, missing_line, other_line, no_difference}
use Rattle.compare_report.specs.declared.tally.Tally.{Tally}
use Rattle.compare_report.specs.declared.finding.Missing.{Missing}
use Rattle.compare_report.specs.declared.finding.Finding.{Finding}
use Rattle.compare_report.specs.First.{IsFirstStart}

-- how far the recording's clock is ahead, or behind
abbrev pub shift_told : ClockShift → Shift
shift_told shift = record {
  behind = nat_lt shift.ahead shift.behind;
  us = distance shift.ahead shift.behind;
}

-- the line of the shift, which means something only if a run matched under it
abbrev pub shift_shown : ClockShift → Tally → List ℕ
shift_shown shift tally =
    if nat_lt 0 tally.matched then shift_line (shift_told shift) else []

-- if it is asked for, how many of all matched runs were on the same CPU
abbrev pub cpus_told : Bool → Tally → List Finding → List ℕ
cpus_told false tally fs = []
cpus_told true tally fs = cpus_line (sum_by (λ f. f.same_cpu) fs) tally.matched

-- the first differences: of the model, of the recording, or none
abbrev pub other_told : Option Place → List ℕ
other_told None = []
other_told (Some p) = other_line p

abbrev pub differences_told : Option Missing → Option Place → List ℕ
differences_told None None = no_difference
differences_told None (Some p) = other_line p
differences_told (Some x) other = missing_line x.place x.nearest ++ other_told other

abbrev pub report_text : Bool → ClockShift → Tally → List Finding → Option Missing → Option Place
    → List ℕ
report_text cpus shift tally fs missing other =
    shift_shown shift tally
    ++ (table_header ++ (flat_map (λ f. row_line f.row) fs
    ++ (total_line tally ++ (cpus_told cpus tally fs ++ differences_told missing other))))

-- when each task's first run of the model that matches nothing begins, and its first such recorded
-- run
abbrev pub missing_starts : List Finding → List (Option ℕ)
missing_starts fs = map (λ f. option_map (λ x. x.place.run.start) f.missing) fs

abbrev pub other_starts : List Finding → List (Option ℕ)
other_starts fs = map (λ f. option_map (λ p. p.run.start) f.other) fs

-- that of a task, if one is meant
abbrev pub missing_at : List Finding → Option ℕ → Option Missing
missing_at fs j = option_and_then (λ f. f.missing) (option_and_then (slice_get fs) j)

abbrev pub other_at : List Finding → Option ℕ → Option Place
other_at fs j = option_and_then (λ f. f.other) (option_and_then (slice_get fs) j)

-- the text of these findings and of this total, with the earliest differences of all tasks
pub record IsTextOf (cpus : Bool) (shift : ClockShift) (tally : Tally) (fs : List Finding)
    (text : List ℕ) : Type 0 where
  pub missing : Option ℕ
  pub missing_first : IsFirstStart (missing_starts fs) missing
  pub other : Option ℕ
  pub other_first : IsFirstStart (other_starts fs) other
  pub shown : text ≡ report_text cpus shift tally fs (missing_at fs missing) (other_at fs other)
