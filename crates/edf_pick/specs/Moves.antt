-- On which CPUs another one runs after a choice, and which task ran there before (own).
use Rattle.std.specs.Prelude.{ℕ, ◌+◌, ◌==◌, Bool, true, false, if◌then◌else◌, List, [], ◌∷◌, Option, Some, None}
use Rattle.edf_pick.specs.declared.moves.Moved.{Moved}
use Rattle.edf_pick.specs.Places.{Places}

abbrev pub same_occupant : Option ℕ → Option ℕ → Bool
same_occupant None None = true
same_occupant None (Some n) = false
same_occupant (Some m) None = false
same_occupant (Some m) (Some n) = m == n

-- a CPU, if another one runs there
abbrev pub moved_at : ℕ → Option ℕ → Option ℕ → List Moved
moved_at cpu b a = if same_occupant b a then [] else record { cpu = cpu; before = b } ∷ []

-- from this CPU on, in their order
abbrev pub moved_from : ℕ → Places → Places → List Moved
moved_from cpu [] after = []
moved_from cpu (b ∷ before) [] = []
moved_from cpu (b ∷ before) (a ∷ after) =
    if same_occupant b a then moved_from (cpu + 1) before after
    else record { cpu = cpu; before = b } ∷ moved_from (cpu + 1) before after
