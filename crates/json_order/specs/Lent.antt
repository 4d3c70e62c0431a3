-- The JSON value that a `LentTree` stands for.
use Rattle.std.specs.Prelude.{ℕ, List, map, string_bytes}
use Rattle.json_order.specs.Json.{Json, null, boolean, number, string, array, object, no_items, no_members}
use Rattle.json_order.specs.Seen.{items_with, members_with}
use Rattle.json_order.specs.declared.lent.LentText.{LentText}
use Rattle.json_order.specs.declared.lent.LentText.TheVariants.{InPlace, Copied}
use Rattle.json_order.specs.declared.lent.LentTree.{LentTree, fold-LentTree}
use Rattle.json_order.specs.declared.lent.LentTree.TheOpen.{LentTree-F}

abbrev pub text_bytes : LentText → List ℕ
text_bytes (InPlace text) = text.now
text_bytes (Copied text) = string_bytes text

-- a member with its key as bytes
abbrev pub lent_entry : LentText × Json → List ℕ × Json
lent_entry m = (text_bytes m.0, m.1)

-- one level, with each value inside already seen
abbrev pub lent_step : LentTree-F Json → Json
lent_step LentTree-F.Null = null
lent_step (LentTree-F.Bool b) = boolean b
lent_step (LentTree-F.Number text) = number (text_bytes text)
lent_step (LentTree-F.Text text) = string (text_bytes text)
lent_step (LentTree-F.List v) = array (items_with v.items no_items)
lent_step (LentTree-F.Object v) = object (members_with (map lent_entry v.items) no_members)

abbrev pub lent_json : LentTree → Json
lent_json = fold-LentTree Json lent_step
