-- Times by place, and the first of them.
use Rattle.std.specs.Prelude.{ℕ, ◌≡◌, ◌≢◌, ◌⊎◌, ◌-◌, ◌^◌, ◌<◌, ◌≤◌, min, List, [], ◌∷◌, length, map, All, slice_index_or}
use Rattle.std.specs.List.{AllPairs}

-- the first of several times
abbrev pub least : List ℕ → ℕ
least [] = 2 ^ 64 - 1
least (due ∷ more) = min due (least more)

-- from this place on, up to that, none has come
abbrev pub AreLater : List ℕ → ℕ → ℕ → ℕ → Type 0
AreLater due time from end =
    (place : ℕ) → from ≤ place → place < end → place < length due
    → time < slice_index_or due place 0

-- how many times a timer tree has
abbrev pub IsSize : ℕ → Type 0
IsSize count = (count ≡ 4) ⊎ (count ≡ 16) ⊎ (count ≡ 64) ⊎ (count ≡ 256) ⊎ (count ≡ 1024)

-- the times of a list, each at its leaf
abbrev pub times_by_place : List ℕ → List ℕ → List ℕ
times_by_place leaves order = map (λ leaf. slice_index_or leaves leaf 0) order

-- what the timers of a list keep: the leaf of each place, which rise with the places. Every other
-- leaf never comes. There is the room for 256 that they were opened with, so they take no more
pub record AreTimers (leaves order : List ℕ) (capacity : ℕ) : Type 0 where
  pub size : IsSize (length leaves)
  pub few : length order ≤ 256
  pub rising : AllPairs (λ a b. a < b) order
  pub there : All (λ leaf. leaf < length leaves) order
  pub others : (leaf : ℕ) → leaf < length leaves → All (λ other. other ≢ leaf) order
      → slice_index_or leaves leaf 0 ≡ 2 ^ 64 - 1
  pub room : capacity ≡ 256
