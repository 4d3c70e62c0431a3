-- What was found out about a key that members do not have.
use Rattle.std.specs.Prelude.{ℕ, ◌≡◌, true, false, List, Option, Some, None}
use Rattle.json_order.specs.declared.key_order.KeyOrder.{KeyOrder}
use Rattle.json_order.specs.declared.new_key.Finding.{Finding}
use Rattle.json_order.specs.declared.new_key.Finding.TheVariants.{Unknown, Behind, Marked}
use Rattle.json_order.specs.Grammar.{has_key}
use Rattle.json_order.specs.private.Entries.{last_before}
use Rattle.json_order.specs.private.Marks.{mark_of}

-- it is true of the key, behind these keys in this order
abbrev pub IsKeyFinding : KeyOrder → List (List ℕ) → List ℕ → Finding → Type 0
IsKeyFinding order ks key Unknown = Unit {0}
IsKeyFinding order ks key Behind = last_before order ks key ≡ true
IsKeyFinding order ks key (Marked mark) = mark ≡ mark_of key

-- its mark is that of the key, where it has one
abbrev pub HasKeyMark : List ℕ → Finding → Type 0
HasKeyMark key Unknown = Unit {0}
HasKeyMark key Behind = Unit {0}
HasKeyMark key (Marked mark) = mark ≡ mark_of key

-- no finding where one of the keys is this one, and else one that is true
abbrev pub Finds : KeyOrder → List (List ℕ) → List ℕ → Option Finding → Type 0
Finds order ks key None = has_key ks key ≡ true
Finds order ks key (Some f) = (has_key ks key ≡ false) × IsKeyFinding order ks key f
