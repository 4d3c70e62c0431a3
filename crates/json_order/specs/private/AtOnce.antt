-- What the reader takes at once: several characters in front of what is left.
use Rattle.std.specs.Prelude.{ℕ, ◌≡◌, ◌⊎◌, Bool, true, false, not, List, [], ◌∷◌, ◌++◌, Option, Some, Ok, option_and_then, encode_utf8_all}
use Rattle.std.specs.Char.{IsScalar}
use Rattle.std.specs.Char.Utf16.{surrogate_pair_char}
use Rattle.std.specs.List.{AllByRecursion}
use Rattle.json_order.specs.Grammar.{is_plain, is_high_surrogate, is_low_surrogate, IsUnit, IsCharacter}
use Rattle.json_order.specs.Fault.{strict}
use Rattle.json_order.specs.private.Machine.{Entries, Place, in_string, in_key, Frame, State, state, start, run, part_step}
use Rattle.json_order.specs.declared.place.Part.{Part}
use Rattle.json_order.specs.declared.place.Part.TheVariants.{Minus, Zero, Whole, Dot, Fraction, Mark, Sign, Exponent}
use Rattle.json_order.specs.declared.place.Escape.{Escape}

-- from one place to the other, over the characters that stand before what is left
abbrev pub TakesTo : Place → Place → List ℕ → List ℕ → Type 0
TakesTo p q before after =
    (cs : List ℕ) × (before ≡ encode_utf8_all cs ++ after)
    × ((fs : List Frame) → run strict (Ok (state p fs)) cs ≡ Ok (state q fs))

-- a byte at which the plain ones in front end
abbrev pub is_end : ℕ → Bool
is_end b = not (is_plain b)

-- plain characters stand before what is left, and have gone into the text
abbrev pub MovesPlain : List ℕ → List ℕ → List ℕ → List ℕ → Type 0
MovesPlain old new before after =
    (cs : List ℕ) × (before ≡ encode_utf8_all cs ++ after)
    × AllByRecursion (λ c. is_plain c ≡ true) cs × (new ≡ old ++ encode_utf8_all cs)

-- a string, or a key behind any members, goes on from one text and escape to the other, over the
-- characters that stand before what is left
abbrev pub TakesQuoted : List ℕ → Escape → List ℕ → Escape → List ℕ → List ℕ → Type 0
TakesQuoted old e new f before after =
    TakesTo (in_string old e) (in_string new f) before after
    × ((es : Entries) → TakesTo (in_key es old e) (in_key es new f) before after)

-- how far a number is read behind these characters
abbrev pub parts_after : Part → List ℕ → Option Part
parts_after p [] = Some p
parts_after p (c ∷ cs) = option_and_then (λ q. parts_after q cs) (part_step p c)

-- digits go on with a number that is read so far, and leave it there
abbrev pub is_in_digits : Part → Bool
is_in_digits Minus = false
is_in_digits Zero = false
is_in_digits Whole = true
is_in_digits Dot = false
is_in_digits Fraction = true
is_in_digits Mark = false
is_in_digits Sign = false
is_in_digits Exponent = true

-- the reader stands in this state, behind some characters of the text and before what is left of it
abbrev pub Stands : List ℕ → State → List ℕ → Type 0
Stands text s rest =
    (ys : List ℕ) × (text ≡ encode_utf8_all ys ++ rest) × (run strict (Ok start) ys ≡ Ok s)

-- c is the character of the unit u, or of u and the unit that follows
abbrev pub UnitEnds : ℕ → ℕ → List ℕ → List ℕ → Type 0
UnitEnds u c before after =
    ((c ≡ u) × IsScalar u × (before ≡ after))
    ⊎ ((is_high_surrogate u ≡ true)
    × ((low : ℕ) × IsUnit low before after × (is_low_surrogate low ≡ true)
    × (c ≡ surrogate_pair_char u low)))

-- an escape in front spells the character
abbrev pub IsEscape : ℕ → List ℕ → List ℕ → Type 0
IsEscape c before after = IsCharacter c before after × ((tail : List ℕ) × (before ≡ 92 ∷ tail))
