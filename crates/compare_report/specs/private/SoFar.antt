-- The earliest of the times up to a place. No public clause names it.
use Rattle.std.specs.Prelude.{◌≡◌, ℕ, ◌<◌, ◌≤◌, List, slice_index_or, Option, Some, None}

pub record IsLeastSoFar (starts : List (Option ℕ)) (i : ℕ) (found : ℕ × ℕ) : Type 0 where
  pub within : found.0 < i
  pub is : slice_index_or starts found.0 None ≡ Some found.1
  pub least : (k other : ℕ) → k < i → slice_index_or starts k None ≡ Some other → found.1 ≤ other
  pub first : (k other : ℕ) → k < found.0 → slice_index_or starts k None ≡ Some other
      → found.1 < other

abbrev pub IsFirstSoFar : List (Option ℕ) → ℕ → Option (ℕ × ℕ) → Type 0
IsFirstSoFar starts i None = (k : ℕ) → k < i → slice_index_or starts k None ≡ None
IsFirstSoFar starts i (Some found) = IsLeastSoFar starts i found
