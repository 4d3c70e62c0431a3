-- The shift of the recording's clock: the one under which most runs match (own).
use Rattle.std.specs.Prelude.{◌≡◌, ℕ, ◌+◌, ◌*◌, ◌/◌, ◌≤◌, max, List, [], ◌∷◌, map, take, length, sum_by, All, Contains, MatchBool, ◌==◌}
use Rattle.std.specs.List.{flat_map}
use Rattle.trace_compare.specs.declared.clock.ClockShift.{ClockShift}
use Rattle.trace_compare.specs.declared.run.Run.{Run}
use Rattle.trace_compare.specs.declared.task.TaskRuns.{TaskRuns}
use Rattle.trace_compare.specs.Clocks.{no_shift, shift_between, IsShiftUpTo}
use Rattle.trace_compare.specs.Pairs.{fits, partners, count_matched}

-- the tasks that are looked at, and how many runs of each of so many: 4096 in all (own)
abbrev pub looked_at : List TaskRuns → List TaskRuns
looked_at tasks = take 256 tasks

abbrev pub runs_for_each : ℕ → ℕ
runs_for_each tasks = 4096 / max tasks 1

-- from the model's first start to each of the first 50 recorded ones
abbrev pub shifts_from : List Run → List Run → List ClockShift
shifts_from [] rs = []
shifts_from (m ∷ ms) rs = map (λ r. shift_between m.start r.start) (take 50 rs)

abbrev pub shifts_of : TaskRuns → List ClockShift
shifts_of t = shifts_from t.model.items t.recorded.items

abbrev pub candidate_shifts : List TaskRuns → List ClockShift
candidate_shifts tasks = flat_map shifts_of (looked_at tasks)

-- how many of the first runs of a task match under a shift
abbrev pub task_score : ℕ → ℕ → ClockShift → TaskRuns → ℕ
task_score within share shift t =
    count_matched (partners (fits within shift) (take share t.model.items)
    (take (4 * share + 50) t.recorded.items))

abbrev pub score : ℕ → List TaskRuns → ClockShift → ℕ
score within tasks shift =
    sum_by (task_score within (runs_for_each (length (looked_at tasks))) shift) (looked_at tasks)

-- one of the shifts: no other has a greater score, and those of the same score are no smaller
pub record IsBestOf (score_at : ClockShift → ℕ) (shifts : List ClockShift) (shift : ClockShift)
    : Type 0 where
  pub among : Contains shifts shift
  pub most : All (λ s. score_at s ≤ score_at shift) shifts
  pub smallest : All (λ s. score_at s ≡ score_at shift → IsShiftUpTo s shift) shifts

-- the best of the candidates; where there is none, no shift
abbrev pub IsShift : ℕ → List TaskRuns → ClockShift → Type 0
IsShift within tasks shift =
    MatchBool (length (candidate_shifts tasks) == 0) (shift ≡ no_shift)
    (IsBestOf (score within tasks) (candidate_shifts tasks) shift)
