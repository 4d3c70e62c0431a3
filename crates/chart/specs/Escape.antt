-- What stands between tags: the four characters that XML reads as marks are written as references
-- (XML 1.0, "2.4 Character Data and Markup").
use Rattle.std.specs.Prelude.{ℕ, ◌≢◌, ◌==◌, if◌then◌else◌, List, [], ◌∷◌, flat_map, codes, All}

abbrev pub reference : ℕ → List ℕ
reference byte =
    if byte == 38 then codes "&amp;" else
    (if byte == 60 then codes "&lt;" else
    (if byte == 62 then codes "&gt;" else
    (if byte == 34 then codes "&quot;" else byte ∷ [])))

abbrev pub escaped : List ℕ → List ℕ
escaped text = flat_map reference text

-- it opens and closes no tag, and ends no value of an attribute
abbrev pub IsPlain : ℕ → Type 0
IsPlain byte = (byte ≢ 60) × (byte ≢ 62) × (byte ≢ 34)

abbrev pub IsEscaped : List ℕ → Type 0
IsEscaped text = All IsPlain text
