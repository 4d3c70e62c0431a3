-- Characters from 128 on stand in strings alone, and all of them do: the reader treats them alike.
use Rattle.std.specs.Prelude.{◌==◌, nat_lt, nat_le, encode_utf8}
use Rattle.std.specs.Char.{digit_value, is_ascii_digit}
use Rattle.std.specs.Int.{is_in_range}
use Rattle.std.proofs.Common.{ℕ, ◌<◌, ◌≤◌, ◌≡◌, ◌⊎◌, inl, inr, Bool, true, false, List, [], ◌∷◌, ◌++◌, refl, sym, ap, subst, arith, Some, None}
use Rattle.std.proofs.lemmas.Bool.Decides.{nat_tests}
use Rattle.json_order.specs.Json.{Json, number}
use Rattle.json_order.specs.Grammar.{is_space, is_sign, is_mark, short_escape}
use Rattle.json_order.specs.private.Machine.{Entries, Place, at_value, at_first_item, behind, at_first_key, at_next_key, in_key, behind_key, in_string, in_number, in_word, Frame, in_list, in_object, State, state, goes, stops, value_move, next_move, behind_move, key_move, string_move, number_move, word_move, move, going, quote_step, part_step, is_done, IsFinePlace}
use Rattle.std.specs.List.{AllByRecursion}
use Rattle.json_order.specs.declared.place.Escape.{Escape}
use Rattle.json_order.specs.declared.place.Escape.TheVariants.{Outside, Slash, Unit0, Unit1, Unit2, Unit3, High, HighSlash, Low0, Low1, Low2, Low3}
use Rattle.json_order.specs.declared.place.Part.{Part}
use Rattle.json_order.specs.declared.place.Part.TheVariants.{Minus, Zero, Whole, Dot, Fraction, Mark, Sign, Exponent}

eq_far : (c k : ℕ) → 128 ≤ c → k < 128 → (c == k) ≡ false
eq_far c k h l = grind (arith, nat_tests)

space_far : (c : ℕ) → 128 ≤ c → is_space c ≡ false
space_far c h = grind (arith, nat_tests)

range_far : (c : ℕ) → 128 ≤ c → is_in_range 49 57 c ≡ false
range_far c h = grind (arith, nat_tests)

ascii_far : (c : ℕ) → 128 ≤ c → is_ascii_digit c ≡ false
ascii_far c h = grind (arith, nat_tests)

mark_far : (c : ℕ) → 128 ≤ c → is_mark c ≡ false
mark_far c h = grind (arith, nat_tests)

sign_far : (c : ℕ) → 128 ≤ c → is_sign c ≡ false
sign_far c h = grind (arith, nat_tests)

digit_far : (c : ℕ) → 128 ≤ c → nat_lt (digit_value c) 16 ≡ false
digit_far c h = grind (arith, nat_tests)

short_far : (c : ℕ) → 128 ≤ c → short_escape c ≡ None
short_far c h = rw (eq_far c 34 h (omega arith), eq_far c 92 h (omega arith), eq_far c 47 h (omega arith), eq_far c 98 h (omega arith), eq_far c 102 h (omega arith), eq_far c 110 h (omega arith), eq_far c 114 h (omega arith), eq_far c 116 h (omega arith)) refl

value_far : (c : ℕ) (fs : List Frame) → 128 ≤ c → value_move fs c ≡ stops
value_far c fs h = rw (eq_far c 110 h (omega arith), eq_far c 116 h (omega arith), eq_far c 102 h (omega arith), eq_far c 34 h (omega arith), eq_far c 45 h (omega arith), eq_far c 48 h (omega arith), range_far c h, eq_far c 91 h (omega arith), eq_far c 123 h (omega arith)) refl

next_far : (c : ℕ) (v : Json) (fs : List Frame) → 128 ≤ c → next_move v fs c ≡ stops
next_far c v [] h = refl
next_far c v (in_list vs ∷ fs) h = rw (eq_far c 44 h (omega arith), eq_far c 93 h (omega arith)) refl
next_far c v (in_object es key ∷ fs) h = rw (eq_far c 44 h (omega arith), eq_far c 125 h (omega arith)) refl

behind_far : (c : ℕ) (v : Json) (fs : List Frame) → 128 ≤ c → behind_move v fs c ≡ stops
behind_far c v fs h = rw (space_far c h) (next_far c v fs h)

part_far : (c : ℕ) (p : Part) → 128 ≤ c → part_step p c ≡ None
part_far c Minus h = rw (eq_far c 48 h (omega arith), range_far c h) refl
part_far c Zero h = rw (eq_far c 46 h (omega arith), mark_far c h) refl
part_far c Whole h = rw (ascii_far c h, eq_far c 46 h (omega arith), mark_far c h) refl
part_far c Dot h = rw (ascii_far c h) refl
part_far c Fraction h = rw (ascii_far c h, mark_far c h) refl
part_far c Mark h = rw (ascii_far c h, sign_far c h) refl
part_far c Sign h = rw (ascii_far c h) refl
part_far c Exponent h = rw (ascii_far c h) refl

le_far : (c : ℕ) → 128 ≤ c → nat_le 32 c ≡ true
le_far c h = grind (arith, nat_tests)

plain_far : (c : ℕ) (text : List ℕ) → 128 ≤ c → quote_step text Outside c ≡ Some (going (text ++ encode_utf8 c) Outside)
plain_far c text h = rw (eq_far c 34 h (omega arith), eq_far c 92 h (omega arith), le_far c h) refl

-- a place takes each of them, or none
abbrev pub TakesAll : Place → List Frame → Type 0
TakesAll p fs = (c : ℕ) → 128 ≤ c → (s : State) × (move p fs c ≡ goes s)

abbrev pub TakesNone : Place → List Frame → Type 0
TakesNone p fs = (c : ℕ) → 128 ≤ c → move p fs c ≡ stops

quote_cases : (text : List ℕ) (e : Escape) → (e ≡ Outside) ⊎ ((c : ℕ) → 128 ≤ c → quote_step text e c ≡ None)
quote_cases text Outside = inl refl
quote_cases text Slash = inr (λ c h. rw (eq_far c 117 h (omega arith), short_far c h) refl)
quote_cases text Unit0 = inr (λ c h. rw (digit_far c h) refl)
quote_cases text (Unit1 v) = inr (λ c h. rw (digit_far c h) refl)
quote_cases text (Unit2 v) = inr (λ c h. rw (digit_far c h) refl)
quote_cases text (Unit3 v) = inr (λ c h. rw (digit_far c h) refl)
quote_cases text (High s) = inr (λ c h. rw (eq_far c 92 h (omega arith)) refl)
quote_cases text (HighSlash s) = inr (λ c h. rw (eq_far c 117 h (omega arith)) refl)
quote_cases text (Low0 s) = inr (λ c h. rw (digit_far c h) refl)
quote_cases text (Low1 s) = inr (λ c h. rw (digit_far c h) refl)
quote_cases text (Low2 s v) = inr (λ c h. rw (digit_far c h) refl)
quote_cases text (Low3 s v) = inr (λ c h. rw (digit_far c h) refl)

string_far : (fs : List Frame) (text : List ℕ) (e : Escape) → TakesAll (in_string text e) fs ⊎ TakesNone (in_string text e) fs
string_far fs text e = elim (quote_cases text e) [ inl o ↦ inl (all o) | inr n ↦ inr (λ c h. ap (string_move fs) (n c h)) ]
  where
    all : e ≡ Outside → TakesAll (in_string text e) fs
    all o = subst (λ y. TakesAll (in_string text y) fs) (sym o) (λ c h. (state (in_string (text ++ encode_utf8 c) Outside) fs, ap (string_move fs) (plain_far c text h)))

key_far : (fs : List Frame) (es : Entries) (text : List ℕ) (e : Escape) → TakesAll (in_key es text e) fs ⊎ TakesNone (in_key es text e) fs
key_far fs es text e = elim (quote_cases text e) [ inl o ↦ inl (all o) | inr n ↦ inr (λ c h. ap (key_move es fs) (n c h)) ]
  where
    all : e ≡ Outside → TakesAll (in_key es text e) fs
    all o = subst (λ y. TakesAll (in_key es text y) fs) (sym o) (λ c h. (state (in_key es (text ++ encode_utf8 c) Outside) fs, ap (key_move es fs) (plain_far c text h)))

number_far : (fs : List Frame) (text : List ℕ) (p : Part) (c : ℕ) → 128 ≤ c → move (in_number text p) fs c ≡ stops
number_far fs text p c h = rw (part_far c p h) (go (is_done p))
  where
    go : (d : Bool) → number_move text fs c d None ≡ stops
    go true = behind_far c (number text) fs h
    go false = refl

word_far : (fs : List Frame) (ls : List ℕ) (v : Json) (c : ℕ) → AllByRecursion (λ l. l < 128) ls → 128 ≤ c → word_move ls v fs c ≡ stops
word_far fs [] v c a h = behind_far c v fs h
word_far fs (l ∷ ls) v c a h = rw (eq_far c l h a.0) refl

pub far : (p : Place) (fs : List Frame) → IsFinePlace p → TakesAll p fs ⊎ TakesNone p fs
far at_value fs f = inr (λ c h. rw (space_far c h) (value_far c fs h))
far at_first_item fs f = inr (λ c h. rw (space_far c h, eq_far c 93 h (omega arith)) (value_far c (in_list [] ∷ fs) h))
far (behind v) fs f = inr (λ c h. behind_far c v fs h)
far at_first_key fs f = inr (λ c h. rw (space_far c h, eq_far c 34 h (omega arith), eq_far c 125 h (omega arith)) refl)
far (at_next_key es) fs f = inr (λ c h. rw (space_far c h, eq_far c 34 h (omega arith)) refl)
far (in_key es text e) fs f = key_far fs es text e
far (behind_key es key) fs f = inr (λ c h. rw (space_far c h, eq_far c 58 h (omega arith)) refl)
far (in_string text e) fs f = string_far fs text e
far (in_number text p) fs f = inr (λ c h. number_far fs text p c h)
far (in_word ls v) fs f = inr (λ c h. word_far fs ls v c f h)
