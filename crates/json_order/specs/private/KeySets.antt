-- Which keys stand in a set of them: in a table of members' numbers, or beside it.
use Rattle.std.specs.Prelude.{ℕ, zero, suc, ◌-◌, ◌%◌, ◌<◌, ◌≤◌, ◌≡◌, ◌==◌, Bool, true, false, ◌&&◌, if◌then◌else◌, List, [], ◌∷◌, length, take, drop, Option, Some, None}
use Rattle.std.specs.List.{All}
use Rattle.std.specs.Str.{bytes_eq}
use Rattle.std.specs.BTreeSet.{BTreeSet, contains_text}
use Rattle.std.specs.declared.string.String.{String}
use Rattle.std.specs.declared.alloc.Global.{Global}
use Rattle.json_order.specs.declared.key_set.KeySet.{KeySet}
use Rattle.json_order.specs.declared.key_set.Slot.{Slot}
use Rattle.json_order.specs.Grammar.{has_key}
use Rattle.json_order.specs.private.Marks.{mark_of}

-- the key at this place, from 0, is this one
abbrev pub is_key_named : List (List ℕ) → ℕ → List ℕ → Bool
is_key_named [] n key = false
is_key_named (k ∷ ks) zero key = bytes_eq k key
is_key_named (k ∷ ks) (suc n) key = is_key_named ks n key

-- the slot has the mark, and its member, by its number from 1, the key
abbrev pub is_key_at : List (List ℕ) → ℕ → List ℕ → Slot → Bool
is_key_at ks mark key s = (s.mark == mark) && is_key_named ks (s.number - 1) key

-- how many slots in front are taken
abbrev pub slots_taken : List Slot → ℕ
slots_taken [] = 0
slots_taken (s ∷ ss) = if s.number == 0 then 0 else suc (slots_taken ss)

-- whether the key stands in the taken slots in front, none where all are taken, and not by it
abbrev pub finds : List Slot → List (List ℕ) → ℕ → List ℕ → Option Bool
finds [] ks mark key = None
finds (s ∷ ss) ks mark key =
    if s.number == 0 then Some false else
    if is_key_at ks mark key s then Some true else finds ss ks mark key

-- the first slot for a mark, of so many
abbrev pub start_of : ℕ → ℕ → ℕ
start_of count mark = mark % (count - 8)

-- the slots for a mark
abbrev pub window : ℕ → List Slot → List Slot
window mark slots = take 8 (drop (start_of (length slots) mark) slots)

abbrev pub or_beside : Option Bool → Bool → Bool
or_beside None beside = beside
or_beside (Some found) beside = found

-- the key is found, in the table or beside it
abbrev pub has_text : List Slot → BTreeSet (String Global) → List (List ℕ) → List ℕ → Bool
has_text slots others ks key =
    or_beside (finds (window (mark_of key) slots) ks (mark_of key) key) (contains_text others key)

-- the table of these keys, and of no others
pub record Table (slots : List Slot) (others : BTreeSet (String Global)) (ks : List (List ℕ))
    : Type 0 where
  pub wide : 8 < length slots
  pub numbers : All (λ s. s.number ≤ length ks) slots
  pub beside : (key : List ℕ) → contains_text others key ≡ true → has_key ks key ≡ true
  pub all : (key : List ℕ) → has_key ks key ≡ true → has_text slots others ks key ≡ true

-- these keys and no others
abbrev pub HasKeys : KeySet → List (List ℕ) → Type 0
HasKeys s ks = Table s.slots.items s.others ks
