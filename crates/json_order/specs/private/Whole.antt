-- What is read whole: several characters at a time, within open lists and objects that leave so
-- many more levels.
use Rattle.std.specs.Prelude.{ℕ, ◌≡◌, ◌+◌, ◌≤◌, true, List, [], ◌∷◌, ◌++◌, length, Ok, encode_utf8, encode_utf8_all}
use Rattle.json_order.specs.Json.{Json, number}
use Rattle.json_order.specs.Fault.{strict}
use Rattle.json_order.specs.private.Machine.{Entries, Place, at_value, at_first_item, behind, at_first_key, at_next_key, in_key, behind_key, in_string, in_number, in_word, Frame, in_list, in_object, State, state, run, is_done}
use Rattle.json_order.specs.private.AtOnce.{TakesQuoted, Stands}
use Rattle.json_order.specs.private.Places.{letters_from, value_of}
use Rattle.json_order.specs.declared.word.Word.{Word}
use Rattle.json_order.specs.declared.place.Escape.TheVariants.{Outside}

-- from one state to the other, over the characters that stand before what is left, within any open
-- lists and objects that leave so many more levels
abbrev pub Crosses : ℕ → (List Frame → State) → (List Frame → State) → List ℕ → List ℕ → Type 0
Crosses depth s t before after =
    (cs : List ℕ) × (before ≡ encode_utf8_all cs ++ after)
    × ((fs : List Frame) → length fs + depth ≤ 16 → run strict (Ok (s fs)) cs ≡ Ok (t fs))

-- the place behind a value, where a number's end is not yet seen
abbrev pub IsBehindValue : Place → Json → Type 0
IsBehindValue at_value v = ⊥
IsBehindValue at_first_item v = ⊥
IsBehindValue (behind w) v = w ≡ v
IsBehindValue at_first_key v = ⊥
IsBehindValue (at_next_key es) v = ⊥
IsBehindValue (in_key es text e) v = ⊥
IsBehindValue (behind_key es key) v = ⊥
IsBehindValue (in_string text e) v = ⊥
IsBehindValue (in_number text p) v = (is_done p ≡ true) × (number text ≡ v)
IsBehindValue (in_word [] w) v = w ≡ v
IsBehindValue (in_word (l ∷ ls) w) v = ⊥

-- the value stands in front
abbrev pub ReadsValue : ℕ → Json → List ℕ → List ℕ → Type 0
ReadsValue depth v before after =
    (p : Place) × IsBehindValue p v × Crosses depth (state at_value) (state p) before after

-- a number stands in front
abbrev pub ReadsNumber : Json → List ℕ → List ℕ → Type 0
ReadsNumber v before after = ReadsValue 0 v before after

-- the characters of a string, and its closing quote
abbrev pub IsQuoted : List ℕ → List ℕ → List ℕ → Type 0
IsQuoted text before after =
    (mid : List ℕ) × TakesQuoted [] Outside text Outside before mid
    × (mid ≡ encode_utf8 34 ++ after)

-- the letters of a word behind its first
abbrev pub ReadsWord : Word → List ℕ → List ℕ → Type 0
ReadsWord w before after =
    Crosses 0 (state (in_word (letters_from w 1) (value_of w))) (state (in_word [] (value_of w)))
    before after

-- before an item behind these
abbrev pub before_item : List Json → List Frame → State
before_item [] fs = state at_first_item fs
before_item (v ∷ vs) fs = state at_value (in_list (v ∷ vs) ∷ fs)

-- before a key behind these members
abbrev pub before_key : Entries → List Frame → State
before_key [] fs = state at_first_key fs
before_key (e ∷ es) fs = state (at_next_key (e ∷ es)) fs

-- a key behind these members, up to its value
abbrev pub ReadsKey : Entries → List ℕ → List ℕ → List ℕ → Type 0
ReadsKey es key before after =
    Crosses 0 (before_key es) (λ fs. state at_value (in_object es key ∷ fs)) before after

-- the whole text is read, and the reader stands behind this value
abbrev pub IsWholeText : List ℕ → Json → Type 0
IsWholeText text v = (p : Place) × IsBehindValue p v × Stands text (state p []) []
