-- The leaves of a list's times, for the code's own contracts.
use Rattle.std.specs.Prelude.{ℕ, ◌≡◌, ◌<◌, ◌≤◌, List, length, slice_index_or}

-- the first place whose leaf is not before this one
pub record IsFirstFrom (order : List ℕ) (leaf place : ℕ) : Type 0 where
  pub within : place ≤ length order
  pub before : (k : ℕ) → k < place → slice_index_or order k 0 < leaf
  pub following : (k : ℕ) → place ≤ k → k < length order → leaf ≤ slice_index_or order k 0

-- up to this place each time is at the leaf of its place
abbrev pub ArePacked : List ℕ → ℕ → Type 0
ArePacked order count = (k : ℕ) → k < count → slice_index_or order k 0 ≡ k
