-- A list that has no element in memory: one after another, or a part of the list given again.
use Rattle.std.specs.Prelude.{ℕ, List, [], ◌∷◌, ◌++◌, drop}
use Rattle.run_figures.specs.declared.past.Items.{Items, Nothing, One', Again'}
use Rattle.run_figures.specs.Again.{more_of}

-- `later` makes of an item the same one, a number of microseconds later
abbrev pub items_of : {T : Type 0} → (ℕ → T → T) → Items T → List T
items_of later Nothing = []
items_of later (One' shape before one) = items_of later before ++ one.value ∷ []
items_of later (Again' shape before from micros periods) =
    items_of later before ++ more_of later micros periods (drop from (items_of later before))
