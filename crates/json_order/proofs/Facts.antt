-- What every move keeps, and which characters open a list or an object or end a key.
use Rattle.std.specs.Prelude.{◌==◌, if◌then◌else◌, nat_lt, nat_le, codes, encode_utf8}
use Rattle.std.specs.Char.Utf16.{surrogate_pair_char}
use Rattle.std.specs.List.{AllByRecursion}
use Rattle.std.specs.Char.{digit_value}
use Rattle.std.specs.Int.{is_in_range}
use Rattle.std.proofs.Common.{ℕ, suc, ◌+◌, ◌*◌, ◌<◌, ◌≤◌, ◌≡◌, ◌⊎◌, inl, inr, Bool, true, false, List, [], ◌∷◌, ◌++◌, length, arith, Option, Some, None}
use Rattle.json_order.specs.Json.{Json, null, boolean, number, array, object, no_items, no_members}
use Rattle.json_order.specs.Seen.{items_with, members_with}
use Rattle.json_order.specs.Grammar.{is_space, short_escape, is_high_surrogate}
use Rattle.json_order.specs.private.Machine.{Entries, Place, at_value, at_first_item, behind, at_first_key, at_next_key, in_key, behind_key, in_string, in_number, in_word, Frame, in_list, in_object, State, state, Move, goes, opens, names, stops, value_move, next_move, behind_move, key_move, string_move, number_move, word_move, move, IsFinePlace, Quote, going, closed, quote_step, quote_spelled, first_unit, part_step, is_done}
use Rattle.json_order.specs.declared.place.Escape.{Escape}
use Rattle.json_order.specs.declared.place.Escape.TheVariants.{Outside, Slash, Unit0, Unit1, Unit2, Unit3, High, HighSlash, Low0, Low1, Low2, Low3}
use Rattle.json_order.specs.declared.place.Part.{Part}
use Rattle.json_order.specs.declared.place.Part.TheVariants.{Minus, Zero, Whole}
use Rattle.json_order.proofs.Spaces.{split}
use Rattle.json_order.proofs.Numbers.{is_eq}
use Rattle.json_order.proofs.Strings.{fine_quote, FineQuote}

-- how many lists and objects are open
abbrev pub depth : Place → List Frame → ℕ
depth at_value fs = length fs
depth at_first_item fs = suc (length fs)
depth (behind v) fs = length fs
depth at_first_key fs = suc (length fs)
depth (at_next_key es) fs = suc (length fs)
depth (in_key es text e) fs = suc (length fs)
depth (behind_key es key) fs = suc (length fs)
depth (in_string text e) fs = length fs
depth (in_number text p) fs = length fs
depth (in_word ls v) fs = length fs

-- at most L lists and objects are open, and what is known of digits and letters is so
pub record IsSound (L : ℕ) (s : State) : Type 0 where
  pub fine : IsFinePlace s.place
  pub shallow : depth s.place s.frames ≤ L

abbrev pub Facts : ℕ → ℕ → Move → Type 0
Facts L c (goes s) = IsSound L s
Facts L c (opens s) = ((c ≡ 91) ⊎ (c ≡ 123)) × (length s.frames ≤ L) × ((M : ℕ) → length s.frames < M → IsSound M s)
Facts L c (names earlier key s) = (c ≡ 34) × IsSound L s
Facts L c stops = Unit {0}

value_facts : (L c : ℕ) (fs : List Frame) → length fs ≤ L → Facts L c (value_move fs c)
value_facts L c fs h =
    split (λ b. Facts L c (if b then goes (state (in_word (codes "ull") null) fs) else if c == 116 then goes (state (in_word (codes "rue") (boolean true)) fs) else if c == 102 then goes (state (in_word (codes "alse") (boolean false)) fs) else if c == 34 then goes (state (in_string [] Outside) fs) else if c == 45 then goes (state (in_number (c ∷ []) Minus) fs) else if c == 48 then goes (state (in_number (c ∷ []) Zero) fs) else if is_in_range 49 57 c then goes (state (in_number (c ∷ []) Whole) fs) else if c == 91 then opens (state at_first_item fs) else if c == 123 then opens (state at_first_key fs) else stops)) (c == 110)
    (λ e. record { fine = (omega arith, (omega arith, (omega arith, tt))); shallow = h })
    (λ _. split (λ b. Facts L c (if b then goes (state (in_word (codes "rue") (boolean true)) fs) else if c == 102 then goes (state (in_word (codes "alse") (boolean false)) fs) else if c == 34 then goes (state (in_string [] Outside) fs) else if c == 45 then goes (state (in_number (c ∷ []) Minus) fs) else if c == 48 then goes (state (in_number (c ∷ []) Zero) fs) else if is_in_range 49 57 c then goes (state (in_number (c ∷ []) Whole) fs) else if c == 91 then opens (state at_first_item fs) else if c == 123 then opens (state at_first_key fs) else stops)) (c == 116)
    (λ e. record { fine = (omega arith, (omega arith, (omega arith, tt))); shallow = h })
    (λ _. split (λ b. Facts L c (if b then goes (state (in_word (codes "alse") (boolean false)) fs) else if c == 34 then goes (state (in_string [] Outside) fs) else if c == 45 then goes (state (in_number (c ∷ []) Minus) fs) else if c == 48 then goes (state (in_number (c ∷ []) Zero) fs) else if is_in_range 49 57 c then goes (state (in_number (c ∷ []) Whole) fs) else if c == 91 then opens (state at_first_item fs) else if c == 123 then opens (state at_first_key fs) else stops)) (c == 102)
    (λ e. record { fine = (omega arith, (omega arith, (omega arith, (omega arith, tt)))); shallow = h })
    (λ _. split (λ b. Facts L c (if b then goes (state (in_string [] Outside) fs) else if c == 45 then goes (state (in_number (c ∷ []) Minus) fs) else if c == 48 then goes (state (in_number (c ∷ []) Zero) fs) else if is_in_range 49 57 c then goes (state (in_number (c ∷ []) Whole) fs) else if c == 91 then opens (state at_first_item fs) else if c == 123 then opens (state at_first_key fs) else stops)) (c == 34)
    (λ e. record { fine = tt; shallow = h })
    (λ _. split (λ b. Facts L c (if b then goes (state (in_number (c ∷ []) Minus) fs) else if c == 48 then goes (state (in_number (c ∷ []) Zero) fs) else if is_in_range 49 57 c then goes (state (in_number (c ∷ []) Whole) fs) else if c == 91 then opens (state at_first_item fs) else if c == 123 then opens (state at_first_key fs) else stops)) (c == 45)
    (λ e. record { fine = tt; shallow = h })
    (λ _. split (λ b. Facts L c (if b then goes (state (in_number (c ∷ []) Zero) fs) else if is_in_range 49 57 c then goes (state (in_number (c ∷ []) Whole) fs) else if c == 91 then opens (state at_first_item fs) else if c == 123 then opens (state at_first_key fs) else stops)) (c == 48)
    (λ e. record { fine = tt; shallow = h })
    (λ _. split (λ b. Facts L c (if b then goes (state (in_number (c ∷ []) Whole) fs) else if c == 91 then opens (state at_first_item fs) else if c == 123 then opens (state at_first_key fs) else stops)) (is_in_range 49 57 c)
    (λ e. record { fine = tt; shallow = h })
    (λ _. split (λ b. Facts L c (if b then opens (state at_first_item fs) else if c == 123 then opens (state at_first_key fs) else stops)) (c == 91)
    (λ e. (inl (is_eq c 91 e), h, λ M m. record { fine = tt; shallow = m }))
    (λ _. split (λ b. Facts L c (if b then opens (state at_first_key fs) else stops)) (c == 123)
    (λ e. (inr (is_eq c 123 e), h, λ M m. record { fine = tt; shallow = m }))
    (λ _. tt)))))))))

next_facts : (L c : ℕ) (v : Json) (fs : List Frame) → length fs ≤ L → Facts L c (next_move v fs c)
next_facts L c v [] h = tt
next_facts L c v (in_list vs ∷ fs) h =
    split (λ b. Facts L c (if b then goes (state at_value (in_list (vs ++ v ∷ []) ∷ fs)) else if c == 93 then goes (state (behind (array (items_with (vs ++ v ∷ []) no_items))) fs) else stops)) (c == 44)
    (λ _. record { fine = tt; shallow = h })
    (λ _. split (λ b. Facts L c (if b then goes (state (behind (array (items_with (vs ++ v ∷ []) no_items))) fs) else stops)) (c == 93)
    (λ _. record { fine = tt; shallow = omega (arith, h) }) (λ _. tt))
next_facts L c v (in_object es key ∷ fs) h =
    split (λ b. Facts L c (if b then goes (state (at_next_key (es ++ (key, v) ∷ [])) fs) else if c == 125 then goes (state (behind (object (members_with (es ++ (key, v) ∷ []) no_members))) fs) else stops)) (c == 44)
    (λ _. record { fine = tt; shallow = h })
    (λ _. split (λ b. Facts L c (if b then goes (state (behind (object (members_with (es ++ (key, v) ∷ []) no_members))) fs) else stops)) (c == 125)
    (λ _. record { fine = tt; shallow = omega (arith, h) }) (λ _. tt))

behind_facts : (L c : ℕ) (v : Json) (fs : List Frame) → length fs ≤ L → Facts L c (behind_move v fs c)
behind_facts L c v fs h = split (λ b. Facts L c (if b then goes (state (behind v) fs) else next_move v fs c)) (is_space c) (λ _. record { fine = tt; shallow = h }) (λ _. next_facts L c v fs h)

-- only a quote outside of an escape closes a string
abbrev ClosesBy : ℕ → Option Quote → Type 0
ClosesBy c None = Unit {0}
ClosesBy c (Some (going u f)) = Unit {0}
ClosesBy c (Some (closed u)) = c ≡ 34

by_spelled : (c : ℕ) (text : List ℕ) (o : Option ℕ) → ClosesBy c (quote_spelled text o)
by_spelled c text None = tt
by_spelled c text (Some x) = tt

by_quote : (c : ℕ) (text : List ℕ) (e : Escape) → ClosesBy c (quote_step text e c)
by_quote c text Outside =
    split (λ b. ClosesBy c (if b then Some (closed text) else if c == 92 then Some (going text Slash) else if nat_le 32 c then quote_spelled text (Some c) else None)) (c == 34) (λ h. is_eq c 34 h)
    (λ _. split (λ b. ClosesBy c (if b then Some (going text Slash) else if nat_le 32 c then quote_spelled text (Some c) else None)) (c == 92) (λ _. tt)
    (λ _. split (λ b. ClosesBy c (if b then quote_spelled text (Some c) else None)) (nat_le 32 c) (λ _. tt) (λ _. tt)))
by_quote c text Slash = split (λ b. ClosesBy c (if b then Some (going text Unit0) else quote_spelled text (short_escape c))) (c == 117) (λ _. tt) (λ _. by_spelled c text (short_escape c))
by_quote c text Unit0 = split (λ b. ClosesBy c (if b then Some (going text (Unit1 (digit_value c))) else None)) (nat_lt (digit_value c) 16) (λ _. tt) (λ _. tt)
by_quote c text (Unit1 v) =
    split (λ b. ClosesBy c (if b then (if is_in_range 0xDC 0xDF (16 * v + digit_value c) then None else Some (going text (Unit2 (16 * v + digit_value c)))) else None)) (nat_lt (digit_value c) 16)
    (λ _. split (λ b. ClosesBy c (if b then None else Some (going text (Unit2 (16 * v + digit_value c))))) (is_in_range 0xDC 0xDF (16 * v + digit_value c)) (λ _. tt) (λ _. tt)) (λ _. tt)
by_quote c text (Unit2 v) = split (λ b. ClosesBy c (if b then Some (going text (Unit3 (16 * v + digit_value c))) else None)) (nat_lt (digit_value c) 16) (λ _. tt) (λ _. tt)
by_quote c text (Unit3 v) =
    split (λ b. ClosesBy c (if b then first_unit text (16 * v + digit_value c) else None)) (nat_lt (digit_value c) 16)
    (λ _. split (λ b. ClosesBy c (if b then Some (going text (High (16 * v + digit_value c))) else quote_spelled text (Some (16 * v + digit_value c)))) (is_high_surrogate (16 * v + digit_value c)) (λ _. tt) (λ _. tt)) (λ _. tt)
by_quote c text (High s) = split (λ b. ClosesBy c (if b then Some (going text (HighSlash s)) else None)) (c == 92) (λ _. tt) (λ _. tt)
by_quote c text (HighSlash s) = split (λ b. ClosesBy c (if b then Some (going text (Low0 s)) else None)) (c == 117) (λ _. tt) (λ _. tt)
by_quote c text (Low0 s) =
    split (λ b. ClosesBy c (if b then (if digit_value c == 0xD then Some (going text (Low1 s)) else None) else None)) (nat_lt (digit_value c) 16)
    (λ _. split (λ b. ClosesBy c (if b then Some (going text (Low1 s)) else None)) (digit_value c == 0xD) (λ _. tt) (λ _. tt)) (λ _. tt)
by_quote c text (Low1 s) =
    split (λ b. ClosesBy c (if b then (if is_in_range 0xDC 0xDF (0xD0 + digit_value c) then Some (going text (Low2 s (0xD0 + digit_value c))) else None) else None)) (nat_lt (digit_value c) 16)
    (λ _. split (λ b. ClosesBy c (if b then Some (going text (Low2 s (0xD0 + digit_value c))) else None)) (is_in_range 0xDC 0xDF (0xD0 + digit_value c)) (λ _. tt) (λ _. tt)) (λ _. tt)
by_quote c text (Low2 s v) = split (λ b. ClosesBy c (if b then Some (going text (Low3 s (16 * v + digit_value c))) else None)) (nat_lt (digit_value c) 16) (λ _. tt) (λ _. tt)
by_quote c text (Low3 s v) = split (λ b. ClosesBy c (if b then Some (going (text ++ encode_utf8 (surrogate_pair_char s (16 * v + digit_value c))) Outside) else None)) (nat_lt (digit_value c) 16) (λ _. tt) (λ _. tt)

string_facts : (L c : ℕ) (fs : List Frame) → length fs ≤ L → (o : Option Quote) → FineQuote o → Facts L c (string_move fs o)
string_facts L c fs h None f = tt
string_facts L c fs h (Some (going u e)) f = record { fine = f; shallow = h }
string_facts L c fs h (Some (closed u)) f = record { fine = tt; shallow = h }

key_facts : (L c : ℕ) (es : Entries) (fs : List Frame) → suc (length fs) ≤ L → (o : Option Quote) → FineQuote o → ClosesBy c o → Facts L c (key_move es fs o)
key_facts L c es fs h None f b = tt
key_facts L c es fs h (Some (going u e)) f b = record { fine = f; shallow = h }
key_facts L c es fs h (Some (closed u)) f b = (b, record { fine = tt; shallow = h })

number_facts : (L c : ℕ) (text : List ℕ) (fs : List Frame) (d : Bool) (o : Option Part) → length fs ≤ L → Facts L c (number_move text fs c d o)
number_facts L c text fs d (Some p) h = record { fine = tt; shallow = h }
number_facts L c text fs true None h = behind_facts L c (number text) fs h
number_facts L c text fs false None h = tt

word_facts : (L c : ℕ) (ls : List ℕ) (v : Json) (fs : List Frame) → AllByRecursion (λ l. l < 128) ls → length fs ≤ L → Facts L c (word_move ls v fs c)
word_facts L c [] v fs a h = behind_facts L c v fs h
word_facts L c (l ∷ ls) v fs a h = split (λ b. Facts L c (if b then goes (state (in_word ls v) fs) else stops)) (c == l) (λ _. record { fine = a.1; shallow = h }) (λ _. tt)

pub facts : (L c : ℕ) (p : Place) (fs : List Frame) → IsSound L (state p fs) → Facts L c (move p fs c)
facts L c at_value fs s = split (λ b. Facts L c (if b then goes (state at_value fs) else value_move fs c)) (is_space c) (λ _. s) (λ _. value_facts L c fs s.shallow)
facts L c at_first_item fs s =
    split (λ b. Facts L c (if b then goes (state at_first_item fs) else if c == 93 then goes (state (behind (array no_items)) fs) else value_move (in_list [] ∷ fs) c)) (is_space c) (λ _. s)
    (λ _. split (λ b. Facts L c (if b then goes (state (behind (array no_items)) fs) else value_move (in_list [] ∷ fs) c)) (c == 93)
    (λ _. record { fine = tt; shallow = omega (arith, s.shallow) }) (λ _. value_facts L c (in_list [] ∷ fs) s.shallow))
facts L c (behind v) fs s = behind_facts L c v fs s.shallow
facts L c at_first_key fs s =
    split (λ b. Facts L c (if b then goes (state at_first_key fs) else if c == 34 then goes (state (in_key [] [] Outside) fs) else if c == 125 then goes (state (behind (object no_members)) fs) else stops)) (is_space c) (λ _. s)
    (λ _. split (λ b. Facts L c (if b then goes (state (in_key [] [] Outside) fs) else if c == 125 then goes (state (behind (object no_members)) fs) else stops)) (c == 34)
    (λ _. record { fine = tt; shallow = s.shallow })
    (λ _. split (λ b. Facts L c (if b then goes (state (behind (object no_members)) fs) else stops)) (c == 125) (λ _. record { fine = tt; shallow = omega (arith, s.shallow) }) (λ _. tt)))
facts L c (at_next_key es) fs s =
    split (λ b. Facts L c (if b then goes (state (at_next_key es) fs) else if c == 34 then goes (state (in_key es [] Outside) fs) else stops)) (is_space c) (λ _. s)
    (λ _. split (λ b. Facts L c (if b then goes (state (in_key es [] Outside) fs) else stops)) (c == 34) (λ _. record { fine = tt; shallow = s.shallow }) (λ _. tt))
facts L c (in_key es text e) fs s = key_facts L c es fs s.shallow (quote_step text e c) (fine_quote text e c s.fine) (by_quote c text e)
facts L c (behind_key es key) fs s =
    split (λ b. Facts L c (if b then goes (state (behind_key es key) fs) else if c == 58 then goes (state at_value (in_object es key ∷ fs)) else stops)) (is_space c) (λ _. s)
    (λ _. split (λ b. Facts L c (if b then goes (state at_value (in_object es key ∷ fs)) else stops)) (c == 58) (λ _. record { fine = tt; shallow = s.shallow }) (λ _. tt))
facts L c (in_string text e) fs s = string_facts L c fs s.shallow (quote_step text e c) (fine_quote text e c s.fine)
facts L c (in_number text p) fs s = number_facts L c text fs (is_done p) (part_step p c) s.shallow
facts L c (in_word ls v) fs s = word_facts L c ls v fs s.fine s.shallow
