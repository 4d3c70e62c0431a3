-- All tasks, matched (own).
use Rattle.std.specs.Prelude.{◌≡◌, ℕ, ◌<◌, List, length, slice_index_or, Option, None, Some}
use Rattle.trace_compare.specs.declared.clock.ClockShift.{ClockShift}
use Rattle.trace_compare.specs.declared.task.TaskRuns.{TaskRuns}
use Rattle.trace_compare.specs.declared.pairs.Matching.{Matching}
use Rattle.trace_compare.specs.declared.comparing.Compared.{Compared}
use Rattle.trace_compare.specs.Pairs.{fits, partners, left_over}
use Rattle.trace_compare.specs.Shift.{IsShift}

-- the first n tasks are matched
pub record AreMatched (within : ℕ) (shift : ClockShift) (tasks : List TaskRuns) (n : ℕ)
    (matchings : List Matching) : Type 0 where
  pub as_many : length matchings ≡ n
  pub takes : (j : ℕ) (t : TaskRuns) (m : Matching) → j < n
      → (slice_index_or matchings j m).partners.items
      ≡ partners (fits within shift) (slice_index_or tasks j t).model.items
      (slice_index_or tasks j t).recorded.items
  pub leaves : (j : ℕ) (t : TaskRuns) (m : Matching) → j < n
      → (slice_index_or matchings j m).left.items
      ≡ left_over (fits within shift) (slice_index_or tasks j t).model.items
      (slice_index_or tasks j t).recorded.items

-- the shift that was asked for, or the best
abbrev pub IsShiftTaken : Option ClockShift → ℕ → List TaskRuns → ClockShift → Type 0
IsShiftTaken (Some asked) within tasks shift = shift ≡ asked
IsShiftTaken None within tasks shift = IsShift within tasks shift

pub record IsCompared (within : ℕ) (asked : Option ClockShift) (tasks : List TaskRuns)
    (c : Compared) : Type 0 where
  pub shift : IsShiftTaken asked within tasks c.shift
  pub matched : AreMatched within c.shift tasks (length tasks) c.tasks.items
