-- What trees with texts of their own stand for.
use Rattle.std.specs.Prelude.{string_bytes}
use Rattle.std.specs.declared.string.String.{String}
use Rattle.std.specs.declared.vec.Vec.{Vec}
use Rattle.std.specs.declared.alloc.Global.{Global}
use Rattle.std.proofs.Common.{◌≡◌, List, [], ◌∷◌, map, refl, sym, ap, ◌∙◌}
use Rattle.json_order.specs.Json.{Json, array, object, no_items, no_members}
use Rattle.json_order.specs.Seen.{json_of, seen_step, member_entry, items_with, members_with}
use Rattle.json_order.specs.private.Copies.{entries_of_copy}
use Rattle.json_order.specs.declared.tree.Tree.{Tree}
use Rattle.json_order.specs.declared.tree.Tree.TheVariants.{List as ListTree, Object, rolls-List, rolls-Object}
use Rattle.json_order.specs.declared.tree.Tree.TheOpen.{Tree-F}
use Rattle.json_order.specs.declared.tree.Tree.TheFolds.{fold-roll-Tree}

pub list_copy_seen : (v : Vec Tree Global) → json_of (ListTree v) ≡ array (items_with (map json_of v.items) no_items)
list_copy_seen v = ap json_of (sym (rolls-List v)) ∙ fold-roll-Tree Json seen_step (Tree-F.List v)

pub object_copy_seen : (v : Vec (String Global × Tree) Global) → json_of (Object v) ≡ object (members_with (entries_of_copy v.items) no_members)
object_copy_seen v = ap json_of (sym (rolls-Object v)) ∙ fold-roll-Tree Json seen_step (Tree-F.Object v) ∙ ap (λ es. object (members_with es no_members)) (seen v.items)
  where
    seen : (ms : List (String Global × Tree)) → map member_entry (map (λ m. (m.0, json_of m.1)) ms) ≡ entries_of_copy ms
    seen [] = refl
    seen (m ∷ ms) = ap (λ es. (string_bytes m.0, json_of m.1) ∷ es) (seen ms)
