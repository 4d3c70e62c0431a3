-- What is told of matched runs, and of those that are not (own).
use Rattle.std.specs.Prelude.{ℕ, ◌+◌, ◌-◌, ◌<◌, ◌≤◌, slice_index_or, fold, min, sum_by, Bool, ◌&&◌, ◌==◌, nat_le, max, List, [], ◌∷◌, ◌++◌, filter, find, length, position, is_none, Option, None, Some}
use Rattle.std.specs.List.{flat_map}
use Rattle.trace_compare.specs.declared.clock.ClockShift.{ClockShift}
use Rattle.trace_compare.specs.declared.run.Run.{Run}
use Rattle.trace_compare.specs.declared.task.TaskRuns.{TaskRuns}
use Rattle.trace_compare.specs.Runs.{length_of}
use Rattle.trace_compare.specs.Clocks.{time_limit}

-- a run with its partner, if it has one
abbrev pub one_pair : Run → Option Run → List (Run × Run)
one_pair m None = []
one_pair m (Some r) = (m, r) ∷ []

-- the matched runs, each with its partner
unfoldable pub pairs_of : List Run → List (Option Run) → List (Run × Run)
pairs_of [] ps = []
pairs_of (m ∷ ms) [] = []
pairs_of (m ∷ ms) (p ∷ ps) = one_pair m p ++ pairs_of ms ps

-- how far two times are apart
abbrev pub distance : ℕ → ℕ → ℕ
distance a b = max (a - b) (b - a)

abbrev pub start_apart : ClockShift → Run × Run → ℕ
start_apart shift p = distance (p.0.start + shift.ahead) (p.1.start + shift.behind)

abbrev pub end_apart : ClockShift → Run × Run → ℕ
end_apart shift p = distance (p.0.«end» + shift.ahead) (p.1.«end» + shift.behind)

-- how many matched runs were on the same CPU
abbrev pub same_cpu : List (Run × Run) → ℕ
same_cpu pairs = length (filter (λ p. p.0.cpu == p.1.cpu) pairs)

-- the number, from 0, of the first run of the model that takes none
abbrev pub first_missing : List (Option Run) → Option ℕ
first_missing ps = position is_none ps

-- a recorded run inside the model's time: it begins at or behind the model's first start and ends
-- at or before the model's last end
abbrev pub is_inside : ℕ → ℕ → ClockShift → Run → Bool
is_inside from until shift r =
    nat_le (from + shift.ahead) (r.start + shift.behind)
    && nat_le (r.«end» + shift.behind) (until + shift.ahead)

-- the first recorded run inside the model's time that no run of the model takes
abbrev pub first_other : ℕ → ℕ → ClockShift → List Run → Option Run
first_other from until shift left = find (is_inside from until shift) left

-- how far a recorded run is from one of the model: its start and its end together
abbrev pub far_from : ClockShift → Run → Run → ℕ
far_from shift m r = start_apart shift (m, r) + end_apart shift (m, r)

-- the place of the nearest run, the first of equals
pub record IsNearest (shift : ClockShift) (m : Run) (rs : List Run) (k : ℕ) : Type 0 where
  pub within : k < length rs
  pub least : (j : ℕ) (d : Run) → j < length rs
      → far_from shift m (slice_index_or rs k d) ≤ far_from shift m (slice_index_or rs j d)
  pub first : (j : ℕ) (d : Run) → j < k
      → far_from shift m (slice_index_or rs k d) < far_from shift m (slice_index_or rs j d)

-- all runs of the model
abbrev pub all_runs : List TaskRuns → List Run
all_runs tasks = flat_map (λ t. t.model.items) tasks

-- when the first of them begins, and 2^61 where there is none
abbrev pub first_start : List TaskRuns → ℕ
first_start tasks = fold (λ at r. min at r.start) time_limit (all_runs tasks)

-- when the last of them ends, and 0 where there is none
abbrev pub last_end : List TaskRuns → ℕ
last_end tasks = fold (λ at r. max at r.«end») 0 (all_runs tasks)

-- the CPU time of runs, up to the most that 64 bits hold
abbrev pub cpu_time : List Run → ℕ
cpu_time rs = min (sum_by length_of rs) 18446744073709551615

-- the same of those that are taken
abbrev pub taken_length : Option Run → ℕ
taken_length None = 0
taken_length (Some r) = length_of r

abbrev pub taken_time : List (Option Run) → ℕ
taken_time ps = min (sum_by taken_length ps) 18446744073709551615

-- how many recorded runs inside the model's time no run of the model takes
abbrev pub others : ℕ → ℕ → ClockShift → List Run → ℕ
others from until shift left = length (filter (is_inside from until shift) left)
