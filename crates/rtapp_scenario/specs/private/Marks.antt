-- Marks for the numbers 0 to 511.
use Rattle.std.specs.Prelude.{ℕ, ◌≡◌, ◌<◌, ◌==◌, Bool, false, List, length}
use Rattle.std.specs.List.{list_any}
use Rattle.std.proofs.Common.{get_or}

-- the mark of each number says whether it stands in the list
pub record AreMarks (seen : List Bool) (ns : List ℕ) : Type 0 where
  pub long : length seen ≡ 512
  pub mark : (k : ℕ) → k < 512 → get_or seen k false ≡ list_any (λ m. m == k) ns
