-- The better of two shifts. No public clause names it.
use Rattle.std.specs.Prelude.{◌≡◌, ℕ, ◌<◌, ◌≤◌, ◌⊎◌, List, slice_index_or, Contains, length, min}
use Rattle.trace_compare.specs.declared.clock.ClockShift.{ClockShift}
use Rattle.trace_compare.specs.declared.shift.Choice.{Choice}
use Rattle.trace_compare.specs.declared.task.TaskRuns.{TaskRuns}
use Rattle.trace_compare.specs.Clocks.{IsShiftUpTo}

-- how many of the first runs of a task can match at most
abbrev pub most_of : ℕ → TaskRuns → ℕ
most_of share t = min (length t.model.items) share

pub record IsBetter (a b r : Choice) : Type 0 where
  pub one : (r ≡ a) ⊎ (r ≡ b)
  pub most_a : a.score ≤ r.score
  pub most_b : b.score ≤ r.score
  pub least_a : a.score ≡ r.score → IsShiftUpTo a.shift r.shift
  pub least_b : b.score ≡ r.score → IsShiftUpTo b.shift r.shift

-- the best of the first n shifts, or of the list's first
pub record IsBestSoFar (score_at : ClockShift → ℕ) (shifts : List ClockShift) (n : ℕ)
    (best : Choice) : Type 0 where
  pub among : Contains shifts best.shift
  pub value : best.score ≡ score_at best.shift
  pub most : (k : ℕ) (d : ClockShift) → k < n → score_at (slice_index_or shifts k d) ≤ best.score
  pub smallest : (k : ℕ) (d : ClockShift) → k < n
      → score_at (slice_index_or shifts k d) ≡ best.score
      → IsShiftUpTo (slice_index_or shifts k d) best.shift
