-- What may follow a state of the reader: which characters complete a text from there, and to which value. No step of the
-- reader is spoken of here.
use Rattle.std.proofs.Common.{ℕ, suc, ◌≡◌, ◌⊎◌, List, [], ◌∷◌, ◌++◌, length, true, Some}
use Rattle.std.specs.Prelude.{encode_utf8_all}
use Rattle.std.specs.Char.{IsScalar}
use Rattle.std.specs.Char.Utf16.{surrogate_pair_char}
use Rattle.json_order.specs.Json.{Json, number, string, array, object, Items, item, Members, member}
use Rattle.json_order.specs.Seen.{items_with, members_with}
use Rattle.json_order.specs.Grammar.{Rules, IsSpaced, AreDigits, SomeDigits, IsFraction, IsExponent, IsPower, IsUnsigned, short_escape, IsHex, IsUnit, is_high_surrogate, is_low_surrogate, AreCharacters, IsKey, may_follow, IsValue, AreItems, AreMoreItems, AreMembers, AreMoreMembers}
use Rattle.json_order.specs.private.Machine.{entry_keys, Place, at_value, at_first_item, behind, at_first_key, at_next_key, in_key, behind_key, in_string, in_number, in_word, Frame, in_list, in_object, State}
use Rattle.json_order.specs.declared.place.Escape.{Escape}
use Rattle.json_order.specs.declared.place.Escape.TheVariants.{Outside, Slash, Unit0, Unit1, Unit2, Unit3, High, HighSlash, Low0, Low1, Low2, Low3}
use Rattle.json_order.specs.declared.place.Part.{Part}
use Rattle.json_order.specs.declared.place.Part.TheVariants.{Minus, Zero, Whole, Dot, Fraction, Mark, Sign, Exponent}

-- the rest of a number
abbrev pub NumberRest : Part → List ℕ → Type 0
NumberRest Minus rest = IsUnsigned rest
NumberRest Zero rest = (f e : List ℕ) × IsFraction f × IsExponent e × (rest ≡ f ++ e)
NumberRest Whole rest = (ds f e : List ℕ) × AreDigits ds × IsFraction f × IsExponent e × (rest ≡ ds ++ (f ++ e))
NumberRest Dot rest = (ds e : List ℕ) × SomeDigits ds × IsExponent e × (rest ≡ ds ++ e)
NumberRest Fraction rest = (ds e : List ℕ) × AreDigits ds × IsExponent e × (rest ≡ ds ++ e)
NumberRest Mark rest = IsPower rest
NumberRest Sign rest = SomeDigits rest
NumberRest Exponent rest = AreDigits rest

-- c is the character of the unit u, or of u and the unit that follows
abbrev pub UnitRest : ℕ → ℕ → List ℕ → List ℕ → Type 0
UnitRest u c before after =
    ((c ≡ u) × IsScalar u × (before ≡ after))
    ⊎ ((is_high_surrogate u ≡ true) × ((low : ℕ) × IsUnit low before after × (is_low_surrogate low ≡ true) × (c ≡ surrogate_pair_char u low)))

-- the second unit, of which so many digits are missing
abbrev pub LowRest : ℕ → ℕ → ℕ → ℕ → List ℕ → List ℕ → Type 0
LowRest h count v c before after = (low : ℕ) × IsHex count v low before after × (is_low_surrogate low ≡ true) × (c ≡ surrogate_pair_char h low)

-- the first unit, of which so many digits are missing
abbrev pub FirstRest : ℕ → ℕ → ℕ → List ℕ → List ℕ → Type 0
FirstRest count v c before after = (u : ℕ) × (m : List ℕ) × IsHex count v u before m × UnitRest u c m after

-- the rest of the escape that spells c
abbrev pub EscapeRest : Escape → ℕ → List ℕ → List ℕ → Type 0
EscapeRest Outside c before after = ⊥
EscapeRest Slash c before after =
    ((e : ℕ) × (before ≡ e ∷ after) × (short_escape e ≡ Some c))
    ⊎ ((mid : List ℕ) × (before ≡ 117 ∷ mid) × FirstRest 4 0 c mid after)
EscapeRest Unit0 c before after = FirstRest 4 0 c before after
EscapeRest (Unit1 v) c before after = FirstRest 3 v c before after
EscapeRest (Unit2 v) c before after = FirstRest 2 v c before after
EscapeRest (Unit3 v) c before after = FirstRest 1 v c before after
EscapeRest (High h) c before after = (mid : List ℕ) × (before ≡ 92 ∷ 117 ∷ mid) × LowRest h 4 0 c mid after
EscapeRest (HighSlash h) c before after = (mid : List ℕ) × (before ≡ 117 ∷ mid) × LowRest h 4 0 c mid after
EscapeRest (Low0 h) c before after = LowRest h 4 0 c before after
EscapeRest (Low1 h) c before after = LowRest h 3 0xD c before after
EscapeRest (Low2 h v) c before after = LowRest h 2 v c before after
EscapeRest (Low3 h v) c before after = LowRest h 1 v c before after

abbrev pub FirstCharacter : Escape → List ℕ → List ℕ → List ℕ → Type 0
FirstCharacter e [] before after = ⊥
FirstCharacter e (c ∷ cs) before after = (mid : List ℕ) × EscapeRest e c before mid × AreCharacters cs mid after

-- the rest of a string: the characters that are still spelled, and the closing quote
abbrev pub StringRest : Escape → List ℕ → List ℕ → List ℕ → Type 0
StringRest Outside cs before after = AreCharacters cs before after
StringRest Slash cs before after = FirstCharacter Slash cs before after
StringRest Unit0 cs before after = FirstCharacter Unit0 cs before after
StringRest (Unit1 v) cs before after = FirstCharacter (Unit1 v) cs before after
StringRest (Unit2 v) cs before after = FirstCharacter (Unit2 v) cs before after
StringRest (Unit3 v) cs before after = FirstCharacter (Unit3 v) cs before after
StringRest (High h) cs before after = FirstCharacter (High h) cs before after
StringRest (HighSlash h) cs before after = FirstCharacter (HighSlash h) cs before after
StringRest (Low0 h) cs before after = FirstCharacter (Low0 h) cs before after
StringRest (Low1 h) cs before after = FirstCharacter (Low1 h) cs before after
StringRest (Low2 h v) cs before after = FirstCharacter (Low2 h v) cs before after
StringRest (Low3 h v) cs before after = FirstCharacter (Low3 h v) cs before after

-- behind the value v inside of these frames the characters complete the text's value t
abbrev pub Closes : Rules → List Frame → Json → List ℕ → Json → Type 0
Closes r [] v rest t = IsSpaced rest [] × (t ≡ v)
Closes r (in_list vs ∷ fs) v rest t = (more : Items) × (m after : List ℕ) × IsSpaced rest m × AreMoreItems r (suc (length fs)) more m after × Closes r fs (array (items_with vs (item v more))) after t
Closes r (in_object es key ∷ fs) v rest t = (more : Members) × (m after : List ℕ) × IsSpaced rest m × AreMoreMembers r (suc (length fs)) (entry_keys es ++ key ∷ []) more m after × Closes r fs (object (members_with es (member key v more))) after t

-- a value, and what closes the frames around it
abbrev pub BeginsValue : Rules → List Frame → List ℕ → Json → Type 0
BeginsValue r fs rest t = (v : Json) × (e : List ℕ) × IsValue r (length fs) v rest e × Closes r fs v e t

abbrev pub Opens : Rules → List Frame → List ℕ → Json → Type 0
Opens r fs rest t = (s : List ℕ) × IsSpaced rest s × BeginsValue r fs s t

abbrev pub CompletesAt : Rules → Place → List Frame → List ℕ → Json → Type 0
CompletesAt r at_value fs rest t = Opens r fs rest t
CompletesAt r at_first_item fs rest t = (items : Items) × (after : List ℕ) × AreItems r (suc (length fs)) items rest after × Closes r fs (array items) after t
CompletesAt r (behind v) fs rest t = Closes r fs v rest t
CompletesAt r at_first_key fs rest t = (members : Members) × (after : List ℕ) × AreMembers r (suc (length fs)) members rest after × Closes r fs (object members) after t
CompletesAt r (at_next_key es) fs rest t = (key m : List ℕ) × IsKey r (entry_keys es) key rest m × Opens r (in_object es key ∷ fs) m t
CompletesAt r (in_key es text e) fs rest t = (cs k c m : List ℕ) × StringRest e cs rest k × (may_follow r (entry_keys es) (text ++ encode_utf8_all cs) ≡ true) × IsSpaced k c × (c ≡ 58 ∷ m) × Opens r (in_object es (text ++ encode_utf8_all cs) ∷ fs) m t
CompletesAt r (behind_key es key) fs rest t = (c m : List ℕ) × IsSpaced rest c × (c ≡ 58 ∷ m) × Opens r (in_object es key ∷ fs) m t
CompletesAt r (in_string text e) fs rest t = (cs m : List ℕ) × StringRest e cs rest m × Closes r fs (string (text ++ encode_utf8_all cs)) m t
CompletesAt r (in_number text p) fs rest t = (more m : List ℕ) × NumberRest p more × (rest ≡ more ++ m) × Closes r fs (number (text ++ more)) m t
CompletesAt r (in_word ls v) fs rest t = (m : List ℕ) × (rest ≡ ls ++ m) × Closes r fs v m t

-- from the state on these characters complete a text of the value t
abbrev pub Completes : Rules → State → List ℕ → Json → Type 0
Completes r s rest t = CompletesAt r s.place s.frames rest t
