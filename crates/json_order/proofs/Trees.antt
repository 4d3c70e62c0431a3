-- What the reader's trees and members stand for.
use Rattle.std.specs.declared.vec.Vec.{Vec}
use Rattle.std.specs.declared.alloc.Global.{Global}
use Rattle.std.proofs.Common.{ℕ, ◌≡◌, true, false, List, [], ◌∷◌, map, refl, sym, ap, ◌∙◌, Option, Some, Ok, Err}
use Rattle.json_order.specs.Json.{Json, string, number, array, object, no_items, no_members}
use Rattle.json_order.specs.Lent.{text_bytes, lent_json, lent_step, lent_entry}
use Rattle.json_order.specs.Seen.{items_with, members_with}
use Rattle.json_order.specs.Grammar.{has_key}
use Rattle.json_order.specs.Fault.{strict}
use Rattle.json_order.specs.private.Entries.{keys_of}
use Rattle.json_order.specs.private.Places.{entries_of_tree}
use Rattle.json_order.specs.private.Machine.{entry_keys, Frame, state, behind_key, Quote, closed, key_move, under_rules}
use Rattle.json_order.specs.declared.fault.JsonKind.TheVariants.{Duplicate}
use Rattle.json_order.specs.declared.lent.LentText.{LentText}
use Rattle.json_order.specs.declared.lent.LentTree.{LentTree}
use Rattle.json_order.specs.declared.lent.LentTree.TheVariants.{List as ListTree, Object, Text, Number, rolls-List, rolls-Object, rolls-Text, rolls-Number}
use Rattle.json_order.specs.declared.lent.LentTree.TheOpen.{LentTree-F}
use Rattle.json_order.specs.declared.lent.LentTree.TheFolds.{fold-roll-LentTree}

pub list_seen : (v : Vec LentTree Global) → lent_json (ListTree v) ≡ array (items_with (map lent_json v.items) no_items)
list_seen v = ap lent_json (sym (rolls-List v)) ∙ fold-roll-LentTree Json lent_step (LentTree-F.List v)

pub object_seen : (v : Vec (LentText × LentTree) Global) → lent_json (Object v) ≡ object (members_with (entries_of_tree v.items) no_members)
object_seen v = ap lent_json (sym (rolls-Object v)) ∙ fold-roll-LentTree Json lent_step (LentTree-F.Object v) ∙ ap (λ es. object (members_with es no_members)) (seen v.items)
  where
    seen : (ms : List (LentText × LentTree)) → map lent_entry (map (λ m. (m.0, lent_json m.1)) ms) ≡ entries_of_tree ms
    seen [] = refl
    seen (m ∷ ms) = ap (λ es. (text_bytes m.0, lent_json m.1) ∷ es) (seen ms)

pub text_seen : (s : LentText) → lent_json (Text s) ≡ string (text_bytes s)
text_seen s = ap lent_json (sym (rolls-Text s)) ∙ fold-roll-LentTree Json lent_step (LentTree-F.Text s)

pub number_seen : (s : LentText) → lent_json (Number s) ≡ number (text_bytes s)
number_seen s = ap lent_json (sym (rolls-Number s)) ∙ fold-roll-LentTree Json lent_step (LentTree-F.Number s)

pub keys_seen : (ms : List (LentText × LentTree)) → entry_keys (entries_of_tree ms) ≡ keys_of ms
keys_seen [] = refl
keys_seen (m ∷ ms) = ap (λ ks. text_bytes m.0 ∷ ks) (keys_seen ms)

-- a key's closing quote, where the key stands among the members
pub key_repeats : (ms : List (LentText × LentTree)) (fs : List Frame) (o : Option Quote) (text : List ℕ) → o ≡ Some (closed text) → has_key (keys_of ms) text ≡ true → under_rules strict (key_move (entries_of_tree ms) fs o) ≡ Err Duplicate
key_repeats ms fs o text e h = rw (e, keys_seen ms, h) refl

-- and where it does not
pub key_follows : (ms : List (LentText × LentTree)) (fs : List Frame) (o : Option Quote) (text : List ℕ) → o ≡ Some (closed text) → has_key (keys_of ms) text ≡ false → under_rules strict (key_move (entries_of_tree ms) fs o) ≡ Ok (state (behind_key (entries_of_tree ms) text) fs)
key_follows ms fs o text e h = rw (e, keys_seen ms, h) refl
