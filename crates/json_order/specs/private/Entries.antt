-- The keys of an object's members, and their order.
use Rattle.std.specs.Prelude.{ℕ, ◌≡◌, Bool, true, ◌&&◌, List, [], ◌∷◌, map}
use Rattle.std.specs.Ordering.{nat_cmp, is_lt}
use Rattle.std.specs.Cmp.Lexicographic.{slice_cmp}
use Rattle.json_order.specs.declared.key_order.KeyOrder.{KeyOrder}
use Rattle.json_order.specs.declared.key_order.KeyOrder.TheVariants.{Rising, Falling}
use Rattle.json_order.specs.declared.lent.LentText.{LentText}
use Rattle.json_order.specs.declared.lent.LentTree.{LentTree}
use Rattle.json_order.specs.Lent.{text_bytes}

-- the keys, as bytes
abbrev pub keys_of : List (LentText × LentTree) → List (List ℕ)
keys_of ms = map (λ m. text_bytes m.0) ms

-- the first key may stand before the other, by the order of their bytes
abbrev pub key_precedes : KeyOrder → List ℕ → List ℕ → Bool
key_precedes Rising k l = is_lt (slice_cmp nat_cmp k l)
key_precedes Falling k l = is_lt (slice_cmp nat_cmp l k)

-- each key may stand before this one
abbrev pub all_before : KeyOrder → List (List ℕ) → List ℕ → Bool
all_before o [] key = true
all_before o (k ∷ ks) key = key_precedes o k key && all_before o ks key

-- the last key, where there is one, may stand before this one
abbrev pub last_before : KeyOrder → List (List ℕ) → List ℕ → Bool
last_before o [] key = true
last_before o (k ∷ []) key = key_precedes o k key
last_before o (k ∷ l ∷ ks) key = last_before o (l ∷ ks) key

-- a key that follows the last follows all
abbrev pub AreOrdered : KeyOrder → List (List ℕ) → Type 0
AreOrdered o ks = (key : List ℕ) → last_before o ks key ≡ true → all_before o ks key ≡ true
