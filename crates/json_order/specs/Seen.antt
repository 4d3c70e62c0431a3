-- The JSON value that a `Tree` stands for.
use Rattle.std.specs.Prelude.{ℕ, List, [], ◌∷◌, map, string_bytes}
use Rattle.std.specs.declared.string.String.{String}
use Rattle.std.specs.declared.alloc.Global.{Global}
use Rattle.json_order.specs.Json.{Json, null, boolean, number, string, array, object, Items, no_items, item, Members, no_members, member}
use Rattle.json_order.specs.declared.tree.Tree.{Tree, fold-Tree}
use Rattle.json_order.specs.declared.tree.Tree.TheOpen.{Tree-F}

-- these values in front of the items
abbrev pub items_with : List Json → Items → Items
items_with [] items = items
items_with (v ∷ vs) items = item v (items_with vs items)

-- these keys and values in front of the members
abbrev pub members_with : List (List ℕ × Json) → Members → Members
members_with [] members = members
members_with (e ∷ es) members = member e.0 e.1 (members_with es members)

-- a member with its key as bytes
abbrev pub member_entry : String Global × Json → List ℕ × Json
member_entry m = (string_bytes m.0, m.1)

-- one level, with each value inside already seen
abbrev pub seen_step : Tree-F Json → Json
seen_step Tree-F.Null = null
seen_step (Tree-F.Bool b) = boolean b
seen_step (Tree-F.Number s) = number (string_bytes s)
seen_step (Tree-F.Text s) = string (string_bytes s)
seen_step (Tree-F.List v) = array (items_with v.items no_items)
seen_step (Tree-F.Object v) = object (members_with (map member_entry v.items) no_members)

abbrev pub json_of : Tree → Json
json_of = fold-Tree Json seen_step
