-- A list that has no item in memory: each after the one before it.
use Rattle.std.specs.Prelude.{List, [], ◌∷◌, ◌++◌}
use Rattle.past.specs.declared.past.Items.{Items, Nothing, One'}
use Rattle.past.specs.declared.past.Past.{Past}

abbrev pub past_items : {T : Type 0} → Items T → List T
past_items Nothing = []
past_items (One' shape before one) = past_items before ++ one.value ∷ []

-- all that was put into it
abbrev pub items_of_past : {T : Type 0} → Past T → List T
items_of_past p = past_items p.items
