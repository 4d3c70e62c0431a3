-- Times up to one, and those after it. No public clause names it.
use Rattle.std.specs.Prelude.{ℕ, ◌≤◌, ◌<◌, List, length, slice_index_or}

-- the first n of these times are not after another time, and the others are
pub record IsSplitAt (times : List ℕ) (time n : ℕ) : Type 0 where
  pub within : n ≤ length times
  pub before : (k : ℕ) → k < n → slice_index_or times k 0 ≤ time
  pub later : (k : ℕ) → n ≤ k → k < length times → time < slice_index_or times k 0
