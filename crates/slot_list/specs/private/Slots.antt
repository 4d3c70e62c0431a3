-- Which slots a list's values are in.
use Rattle.std.specs.Prelude.{ℕ, List, ◌≡◌, ◌≢◌, ◌<◌, ◌≤◌, ◌+◌, All, length}
use Rattle.std.specs.List.{AllPairs, filter_map, slice_get}

-- the values in these slots, in this order
abbrev pub values_at : {X : Type 0} → List X → List ℕ → List X
values_at slots order = filter_map (slice_get slots) order

-- slots of a list, in its order, and those that are free: each of so many stands once in the one or
-- the other, and there is the room for 256 that the list was opened with, so it takes no more
pub record AreSlots (slots : ℕ) (order free : List ℕ) (capacity of_order of_free : ℕ) : Type 0 where
  pub all : length order + length free ≡ slots
  pub few : slots ≤ 256
  pub there : All (λ s. s < slots) order
  pub free_there : All (λ s. s < slots) free
  pub once : AllPairs (λ s t. s ≢ t) order
  pub free_once : AllPairs (λ s t. s ≢ t) free
  pub apart : All (λ s. All (λ t. s ≢ t) free) order
  pub room : capacity ≡ 256
  pub room_in_order : of_order ≡ 256
  pub room_in_free : of_free ≡ 256
