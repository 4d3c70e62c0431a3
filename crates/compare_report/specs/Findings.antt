-- What is told of each task whose runs were compared (own).
use Rattle.std.specs.Prelude.{◌≡◌, ℕ, ◌<◌, nat_lt, List, length, count_by, slice_index_or, Option, Some, None}
use Rattle.trace_compare.specs.declared.clock.ClockShift.{ClockShift}
use Rattle.trace_compare.specs.declared.run.Run.{Run}
use Rattle.trace_compare.specs.declared.task.TaskRuns.{TaskRuns}
use Rattle.trace_compare.specs.declared.pairs.Matching.{Matching}
use Rattle.trace_compare.specs.Differences.{pairs_of, same_cpu, first_missing, first_other, IsNearest}
use Rattle.compare_report.specs.declared.line.Stretch.{Stretch}
use Rattle.compare_report.specs.declared.line.Place.{Place}
use Rattle.compare_report.specs.declared.finding.Missing.{Missing}
use Rattle.compare_report.specs.declared.finding.Finding.{Finding}
use Rattle.compare_report.specs.Rows.{IsRow}

-- when a run began and when it ended, by its own clock
abbrev pub stretch_of : Run → Stretch
stretch_of r = record { start = r.start; «end» = r.«end» }

-- of a task's recorded runs the one that is nearest to a run of the model; none where it has none
abbrev pub IsNearestOf : ClockShift → Run → List Run → Option Stretch → Type 0
IsNearestOf shift m rs None = length rs ≡ 0
IsNearestOf shift m rs (Some s) =
    (k : ℕ) × IsNearest shift m rs k × ((d : Run) → s ≡ stretch_of (slice_index_or rs k d))

-- the model's run of this number, and the recorded run that is nearest
pub record IsMissingAt (shift : ClockShift) (name : List ℕ) (t : TaskRuns) (i : ℕ) (x : Missing)
    : Type 0 where
  pub called : x.place.name.now ≡ name
  pub number : x.place.number ≡ i
  pub among : i < length t.model.items
  pub run : (d : Run) → x.place.run ≡ stretch_of (slice_index_or t.model.items i d)
  pub nearest : (d : Run) → IsNearestOf shift
      (slice_index_or t.model.items i d) t.recorded.items x.nearest

-- the task's first run of the model that no recorded run matches, if there is one
abbrev pub IsMissingOf : ClockShift → List ℕ → TaskRuns → Matching → Option Missing → Type 0
IsMissingOf shift name t m None = first_missing m.partners.items ≡ None
IsMissingOf shift name t m (Some x) =
    (i : ℕ) × (first_missing m.partners.items ≡ Some i) × IsMissingAt shift name t i x

-- a recorded run; its number is how many recorded runs of the task begin earlier
pub record IsOtherAt (name : List ℕ) (t : TaskRuns) (r : Run) (p : Place) : Type 0 where
  pub called : p.name.now ≡ name
  pub number : p.number ≡ count_by (λ q. nat_lt q.start r.start) t.recorded.items
  pub run : p.run ≡ stretch_of r

-- the task's first recorded run inside the model's time that matches none of the model, if there is
-- one
abbrev pub IsOtherOf : ClockShift → ℕ → ℕ → List ℕ → TaskRuns → Matching → Option Place → Type 0
IsOtherOf shift from until name t m None = first_other from until shift m.left.items ≡ None
IsOtherOf shift from until name t m (Some p) =
    (r : Run) × (first_other from until shift m.left.items ≡ Some r) × IsOtherAt name t r p

-- what is told of a task, where the model's time is from one time until another
pub record IsFinding (shift : ClockShift) (from until : ℕ) (name : List ℕ) (t : TaskRuns)
    (m : Matching) (f : Finding) : Type 0 where
  pub row : IsRow shift from until name t m f.row
  pub missing : IsMissingOf shift name t m f.missing
  pub other : IsOtherOf shift from until name t m f.other
  pub same : f.same_cpu ≡ same_cpu (pairs_of t.model.items m.partners.items)

-- of each of the first n tasks, in their order
pub record AreFindings (shift : ClockShift) (from until : ℕ) (names : List (List ℕ))
    (tasks : List TaskRuns) (matchings : List Matching) (n : ℕ) (findings : List Finding)
    : Type 0 where
  pub as_many : length findings ≡ n
  pub each : (j : ℕ) (x : List ℕ) (t : TaskRuns) (m : Matching) (f : Finding) → j < n
      → IsFinding shift from until (slice_index_or names j x) (slice_index_or tasks j t)
      (slice_index_or matchings j m) (slice_index_or findings j f)
