-- The first difference (own): of the earliest runs that match nothing, by their starts; of equals
-- that of the first task.
use Rattle.std.specs.Prelude.{◌≡◌, ℕ, ◌<◌, ◌≤◌, List, length, slice_index_or, Option, Some, None}

-- among candidates, one a task and some without, the earliest
pub record IsEarliest (starts : List (Option ℕ)) (j at : ℕ) : Type 0 where
  pub within : j < length starts
  pub is : slice_index_or starts j None ≡ Some at
  pub least : (k other : ℕ) → slice_index_or starts k None ≡ Some other → at ≤ other
  pub first : (k other : ℕ) → k < j → slice_index_or starts k None ≡ Some other → at < other

abbrev pub IsFirstStart : List (Option ℕ) → Option ℕ → Type 0
IsFirstStart starts None = (k : ℕ) → slice_index_or starts k None ≡ None
IsFirstStart starts (Some j) = (at : ℕ) × IsEarliest starts j at
