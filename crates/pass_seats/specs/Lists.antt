-- What a contract sees of a spine and of a pass (own).
use Rattle.std.specs.Prelude.{ℕ, ◌==◌, if◌then◌else◌, List, [], ◌∷◌}
use Rattle.atomic_table.specs.Seated.{TableId}

-- a spine: which one it is, and its entries, oldest first, each with its client
pub record SpineView (E : Type 0) : Type 0 where
  pub spine : TableId
  pub log : List (ℕ × E)

-- a pass: the spine that it is used with, its client, and the entries that were made with it,
-- oldest first
pub record PassView (E : Type 0) : Type 0 where
  pub spine : TableId
  pub client : ℕ
  pub entries : List E

module _ {E : Type 0} where
  -- the entries of a client
  abbrev pub own : ℕ → List (ℕ × E) → List E
  own c [] = []
  own c (x ∷ xs) = if x.0 == c then (x.1 ∷ own c xs) else own c xs
