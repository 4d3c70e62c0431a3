-- Which runs of the model and of the recording match (own).
use Rattle.std.specs.Prelude.{ℕ, ◌+◌, Bool, ◌&&◌, nat_le, if◌then◌else◌, List, [], ◌∷◌, ◌++◌, length, filter, is_some, Option, None, Some}
use Rattle.std.specs.Option.{option_map, option_map_or}
use Rattle.trace_compare.specs.declared.clock.ClockShift.{ClockShift}
use Rattle.trace_compare.specs.declared.run.Run.{Run}

-- two times that are at most so far apart
abbrev pub is_near : ℕ → ℕ → ℕ → Bool
is_near within a b = nat_le a (b + within) && nat_le b (a + within)

-- the starts are within so many microseconds of one another under the shift, and the ends
abbrev pub fits : ℕ → ClockShift → Run → Run → Bool
fits within shift m r =
    is_near within (m.start + shift.ahead) (r.start + shift.behind)
    && is_near within (m.«end» + shift.ahead) (r.«end» + shift.behind)

-- the elements before the first that passes, that one, and those behind it
pub record Split : Type 0 where
  pub before : List Run
  pub found : Run
  pub after : List Run

-- one more stands before it
abbrev pub later_by : Run → Split → Split
later_by x s = record { before = x ∷ s.before; found = s.found; after = s.after }

unfoldable pub split_at : (Run → Bool) → List Run → Option Split
split_at p [] = None
split_at p (x ∷ xs) =
    if p x then Some (record { before = []; found = x; after = xs })
    else option_map (later_by x) (split_at p xs)

-- for each run of the model, in order of time, the first recorded run that fits and lies behind
-- those that were taken before
unfoldable pub partners : (Run → Run → Bool) → List Run → List Run → List (Option Run)
partners fit [] rs = []
partners fit (m ∷ ms) rs =
    option_map_or (λ s. Some s.found ∷ partners fit ms s.after) (split_at (fit m) rs)
    (None ∷ partners fit ms rs)

-- the recorded runs that no run of the model takes
unfoldable pub left_over : (Run → Run → Bool) → List Run → List Run → List Run
left_over fit [] rs = rs
left_over fit (m ∷ ms) rs =
    option_map_or (λ s. s.before ++ left_over fit ms s.after) (split_at (fit m) rs)
    (left_over fit ms rs)

-- how many runs of the model are matched
abbrev pub count_matched : List (Option Run) → ℕ
count_matched ps = length (filter is_some ps)
