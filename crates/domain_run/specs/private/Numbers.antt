-- A set of numbers kept as a mark for each, seen as the marked numbers in rising order.
use Rattle.std.specs.Prelude.{ℕ, ◌≡◌, ◌+◌, Bool, if◌then◌else◌, List, [], ◌∷◌}
use Rattle.limits.specs.Limits.{task_number_end}

-- the places of the marks, where the first place is `from`
abbrev pub numbers_marked : ℕ → List Bool → List ℕ
numbers_marked from [] = []
numbers_marked from (b ∷ bs) =
    if b then from ∷ numbers_marked (from + 1) bs else numbers_marked (from + 1) bs

-- what such a set keeps: a mark for each number below 65536, and the room for so many that it was
-- opened with, so it takes no more
pub record AreNumberMarks (count capacity : ℕ) : Type 0 where
  pub len : count ≡ task_number_end
  pub room : capacity ≡ task_number_end
