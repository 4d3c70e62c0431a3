-- What the reader's own types stand for. Private contracts cite these.
use Rattle.std.specs.Prelude.{ℕ, ◌≡◌, true, false, List, [], ◌∷◌, map, reverse, drop, Option, None, Result, Err, codes, string_bytes}
use Rattle.std.specs.declared.string.String.{String}
use Rattle.std.specs.declared.alloc.Global.{Global}
use Rattle.json_order.specs.Json.{Json, null, boolean}
use Rattle.json_order.specs.Lent.{text_bytes, lent_json}
use Rattle.json_order.specs.private.Machine.{Entries, Quote, going, closed, Place, at_value, at_first_item, behind, at_first_key, at_next_key, in_key, behind_key, in_string, in_number, in_word, Frame, in_list, in_object, State, state}
use Rattle.json_order.specs.declared.lent.LentText.{LentText}
use Rattle.json_order.specs.declared.lent.LentTree.{LentTree}
use Rattle.json_order.specs.declared.fault.JsonKind.{JsonKind}
use Rattle.json_order.specs.declared.fault.JsonKind.TheVariants.{Syntax, End, Depth, Duplicate, Utf8, Memory}
use Rattle.json_order.specs.declared.word.Word.{Word}
use Rattle.json_order.specs.declared.word.Word.TheVariants.{Null, True, False}
use Rattle.json_order.specs.declared.place.Place.{Place as CodePlace}
use Rattle.json_order.specs.declared.place.Place.TheVariants.{Value, FirstItem, Behind, FirstKey, NextKey, Key, Colon, Text, Number, Word as WordPlace}
use Rattle.json_order.specs.declared.place.Escape.{Escape}
use Rattle.json_order.specs.declared.place.Frame.{Frame as CodeFrame}
use Rattle.json_order.specs.declared.place.Frame.TheVariants.{List as ListFrame, Object as ObjectFrame}
use Rattle.json_order.specs.declared.quote.Quote.{Quote as CodeQuote}
use Rattle.json_order.specs.declared.quote.Quote.TheVariants.{Going, Closed}

-- the letters behind the first few
abbrev pub letters_from : Word → ℕ → List ℕ
letters_from Null n = drop n (codes "null")
letters_from True n = drop n (codes "true")
letters_from False n = drop n (codes "false")

abbrev pub value_of : Word → Json
value_of Null = null
value_of True = boolean true
value_of False = boolean false

-- a string with this text and this much of an escape
abbrev pub quote_of : CodeQuote → String Global → Escape → Quote
quote_of Going s e = going (string_bytes s) e
quote_of Closed s e = closed (string_bytes s)

-- a kind where a string does not go on
abbrev pub Misses : {A : Type 0} → Option A → JsonKind → Type 0
Misses o Syntax = o ≡ None
Misses o Memory = Unit {0}
Misses o End = ⊥
Misses o Depth = ⊥
Misses o Duplicate = ⊥
Misses o Utf8 = ⊥

-- members as keys and values
abbrev pub entries_of_tree : List (LentText × LentTree) → Entries
entries_of_tree ms = map (λ m. (text_bytes m.0, lent_json m.1)) ms

abbrev pub code_place : CodePlace → Place
code_place Value = at_value
code_place FirstItem = at_first_item
code_place (Behind t) = behind (lent_json t)
code_place FirstKey = at_first_key
code_place (NextKey ms) = at_next_key (entries_of_tree ms.list.items)
code_place (Key ms s e) = in_key (entries_of_tree ms.list.items) (string_bytes s) e
code_place (Colon ms s) = behind_key (entries_of_tree ms.list.items) (string_bytes s)
code_place (Text s e) = in_string (string_bytes s) e
code_place (Number s p) = in_number (string_bytes s) p
code_place (WordPlace w n) = in_word (letters_from w n) (value_of w)

abbrev pub frame_of : CodeFrame → Frame
frame_of (ListFrame v) = in_list (map lent_json v.items)
frame_of (ObjectFrame ms key) = in_object (entries_of_tree ms.list.items) (string_bytes key)

-- the last frame of the stack is the innermost
abbrev pub frames_of : List CodeFrame → List Frame
frames_of fs = reverse (map frame_of fs)

abbrev pub code_state : CodePlace → List CodeFrame → State
code_state p fs = state (code_place p) (frames_of fs)

-- the reader's kind is that of the move, unless memory ran out
abbrev pub OutcomeSays : Result State JsonKind → JsonKind → Type 0
OutcomeSays o Memory = Unit {0}
OutcomeSays o Syntax = o ≡ Err Syntax
OutcomeSays o End = o ≡ Err End
OutcomeSays o Depth = o ≡ Err Depth
OutcomeSays o Duplicate = o ≡ Err Duplicate
OutcomeSays o Utf8 = o ≡ Err Utf8

-- the innermost frame is that of an object
abbrev pub IsInObject : List Frame → Type 0
IsInObject [] = ⊥
IsInObject (in_list vs ∷ fs) = ⊥
IsInObject (in_object es key ∷ fs) = Unit {0}

-- what is read so far stands in the place
abbrev pub IsMoving : CodePlace → Type 0
IsMoving Value = ⊥
IsMoving FirstItem = ⊥
IsMoving (Behind t) = Unit {0}
IsMoving FirstKey = ⊥
IsMoving (NextKey ms) = Unit {0}
IsMoving (Key ms s e) = Unit {0}
IsMoving (Colon ms s) = Unit {0}
IsMoving (Text s e) = Unit {0}
IsMoving (Number s p) = Unit {0}
IsMoving (WordPlace w n) = ⊥
