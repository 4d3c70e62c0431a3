-- Names of tasks, numbered as they come (own).
use Rattle.std.specs.Prelude.{◌≡◌, ℕ, ◌<◌, if◌then◌else◌, List, [], ◌∷◌, ◌++◌, length, slice_index_or, bytes_eq, fold, Option, Some, None}
use Rattle.std.specs.List.{list_any}
use Rattle.recorded_text.specs.Line.{SwitchView}

-- no name stands twice
pub record Differ (names : List (List ℕ)) : Type 0 where
  pub apart : (i j : ℕ) (d : List ℕ) → i < j → j < length names
      → slice_index_or names i d ≡ slice_index_or names j d → ⊥

-- new names stand behind the old ones
pub record Grows (old new : List (List ℕ)) : Type 0 where
  pub more : List (List ℕ)
  pub behind : new ≡ old ++ more

-- a name stands behind the others where it is new
abbrev pub names_with : List (List ℕ) → List ℕ → List (List ℕ)
names_with names name = if list_any (bytes_eq name) names then names else names ++ name ∷ []

-- the name that a switch brings, if it brings one
abbrev pub with_next : List (List ℕ) → Option (List ℕ) → List (List ℕ)
with_next names None = names
with_next names (Some name) = names_with names name

-- the names that switches bring, behind those that were there, as they first come
abbrev pub names_on : List (List ℕ) → List SwitchView → List (List ℕ)
names_on names switches = fold (λ before s. with_next before s.next) names switches
