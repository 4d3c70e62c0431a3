-- Repeated keys with their numbers, so that each key of an object is another one. workgen of
-- rt-app 1.0 adds a number too (check_unikid_json). Here it is the number of the earlier keys that
-- are spelled alike (own: workgen's numbers go on from key to key of an object). A key may be
-- spelled as another one with its number; the two then still repeat each other (own).
use Rattle.std.specs.Prelude.{ℕ, List, [], ◌∷◌, ◌++◌, false, ◌≡◌, drop, length, map, decimal}
use Rattle.json_order.specs.Json.{Json}
use Rattle.json_order.specs.Grammar.{Rules}
use Rattle.json_order.specs.Fault.{Spells}
use Rattle.rtapp_dialect.specs.Repeats.{spelled_at, key_span, repeats_in}
use Rattle.rtapp_dialect.specs.declared.repeats.Repeat.{Repeat}
use Rattle.rtapp_dialect.specs.declared.insertion.Insertion.{Insertion}

-- the rest of the text from the byte at n on, with the numbers before the closing quotes
abbrev pub keys_from : List ℕ → ℕ → List Repeat → List ℕ
keys_from text n [] = drop n text
keys_from text n (r ∷ repeats) =
    spelled_at text (key_span n r.at) ++ (decimal r.earlier ++ keys_from text r.at repeats)

abbrev pub keys_numbered : List ℕ → List ℕ
keys_numbered text = keys_from text 0 (repeats_in text)

abbrev pub number_inserted : Repeat → Insertion
number_inserted r = record { at = r.at; len = length (decimal r.earlier) }

abbrev pub numbers_inserted : List ℕ → List Insertion
numbers_inserted text = map number_inserted (repeats_in text)

-- the text spells a JSON value, under rules by which no key repeats in an object
abbrev pub IsUnrepeatedJson : List ℕ → Type 0
IsUnrepeatedJson text = (rules : Rules) × (rules.repeats ≡ false) × (v : Json) × Spells rules text v

-- A LAW: such a text stays as it is
abbrev pub KeepsUnrepeated : List ℕ → List ℕ → List Insertion → Type 0
KeepsUnrepeated before after insertions =
    IsUnrepeatedJson before → (after ≡ before) × (insertions ≡ [])
