-- A tree of the code and the JSON value that it stands for, one level of it.
use Rattle.std.specs.declared.vec.Vec.{Vec}
use Rattle.std.specs.declared.alloc.Global.{Global}
use Rattle.std.proofs.Common.{◌≡◌, List, [], ◌∷◌, map, refl, sym, ap, ◌∙◌, Some}
use Rattle.json_order.specs.Json.{Json, no_items, no_members}
use Rattle.json_order.specs.Lent.{text_bytes, lent_json, lent_step, lent_entry}
use Rattle.json_order.specs.Seen.{members_with, items_with}
use Rattle.json_order.specs.declared.lent.LentText.{LentText}
use Rattle.json_order.specs.declared.lent.LentTree.{LentTree}
use Rattle.json_order.specs.declared.lent.LentTree.TheVariants.{Object, List as ListTree, rolls-Object, rolls-List}
use Rattle.json_order.specs.declared.lent.LentTree.TheOpen.{LentTree-F}
use Rattle.json_order.specs.declared.lent.LentTree.TheFolds.{fold-roll-LentTree}
use Rattle.rtapp_scenario.specs.Values.{Member, members_in, items_in, object_of, list_of, members_of}

members_back : (ms : List (LentText × LentTree)) → members_in (members_with (map lent_entry (map (λ m. (m.0, lent_json m.1)) ms)) no_members) ≡ members_of ms
members_back [] = refl
members_back (m ∷ ms) = ap (λ others. record { key = text_bytes m.0; value = lent_json m.1 } ∷ others) (members_back ms)

items_back : (vs : List Json) → items_in (items_with vs no_items) ≡ vs
items_back [] = refl
items_back (v ∷ vs) = ap (λ others. v ∷ others) (items_back vs)

pub object_seen : (v : Vec (LentText × LentTree) Global) → object_of (lent_json (Object v)) ≡ Some (members_of v.items)
object_seen v = ap (λ t. object_of (lent_json t)) (sym (rolls-Object v)) ∙ ap object_of (fold-roll-LentTree Json lent_step (LentTree-F.Object v)) ∙ ap (λ (ms : List Member). Some ms) (members_back v.items)

pub list_seen : (v : Vec LentTree Global) → list_of (lent_json (ListTree v)) ≡ Some (map lent_json v.items)
list_seen v = ap (λ t. list_of (lent_json t)) (sym (rolls-List v)) ∙ ap list_of (fold-roll-LentTree Json lent_step (LentTree-F.List v)) ∙ ap (λ (vs : List Json). Some vs) (items_back (map lent_json v.items))
