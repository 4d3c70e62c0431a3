-- The reader's own steps, which private contracts cite. No public clause names them: that they
-- follow the grammar is proved.
use Rattle.std.specs.Prelude.{ℕ, ◌+◌, ◌*◌, ◌<◌, ◌≤◌, ◌⊎◌, Bool, true, false, ◌==◌, nat_le, nat_lt, if◌then◌else◌, List, [], ◌∷◌, ◌++◌, length, map, Option, Some, None, Result, Ok, Err, codes, encode_utf8}
use Rattle.std.specs.Char.{digit_value, is_ascii_digit}
use Rattle.std.specs.Char.Utf16.{surrogate_pair_char}
use Rattle.std.specs.Int.{is_in_range}
use Rattle.std.specs.List.{AllByRecursion}
use Rattle.json_order.specs.Json.{Json, null, boolean, number, string, array, object, no_items, no_members}
use Rattle.json_order.specs.Seen.{items_with, members_with}
use Rattle.json_order.specs.Grammar.{Rules, is_space, is_sign, is_mark, short_escape, is_high_surrogate, may_follow}
use Rattle.json_order.specs.declared.fault.JsonKind.{JsonKind}
use Rattle.json_order.specs.declared.fault.JsonKind.TheVariants.{Syntax, Depth, Duplicate}
use Rattle.json_order.specs.declared.place.Escape.{Escape}
use Rattle.json_order.specs.declared.place.Escape.TheVariants.{Outside, Slash, Unit0, Unit1, Unit2, Unit3, High, HighSlash, Low0, Low1, Low2, Low3}
use Rattle.json_order.specs.declared.place.Part.{Part}
use Rattle.json_order.specs.declared.place.Part.TheVariants.{Minus, Zero, Whole, Dot, Fraction, Mark, Sign, Exponent}

-- keys and values
abbrev pub Entries : Type 0
Entries = List (List ℕ × Json)

abbrev pub entry_keys : Entries → List (List ℕ)
entry_keys es = map (λ e. e.0) es

-- where in a text the reader stands, apart from what is open around it
pub data Place : Type 0 where
  at_value : Place
  at_first_item : Place
  behind : Json → Place
  at_first_key : Place
  at_next_key : Entries → Place
  in_key : Entries → List ℕ → Escape → Place
  behind_key : Entries → List ℕ → Place
  in_string : List ℕ → Escape → Place
  in_number : List ℕ → Part → Place
  in_word : List ℕ → Json → Place

-- a list with its items so far, or an object with its members so far and the key of the value that
-- is being read
pub data Frame : Type 0 where
  in_list : List Json → Frame
  in_object : Entries → List ℕ → Frame

-- the innermost frame stands first
pub record State : Type 0 where
  pub place : Place
  pub frames : List Frame

abbrev pub state : Place → List Frame → State
state p fs = record { place = p; frames = fs }

-- what a character does: it goes on, opens a list or an object, ends a key behind earlier ones, or
-- fits nowhere
pub data Move : Type 0 where
  goes : State → Move
  opens : State → Move
  names : List (List ℕ) → List ℕ → State → Move
  stops : Move

-- STRINGS

-- what is known of the digits of an escape: a first unit is no low surrogate, a second one is
abbrev pub IsFine : Escape → Type 0
IsFine Outside = Unit {0}
IsFine Slash = Unit {0}
IsFine Unit0 = Unit {0}
IsFine (Unit1 v) = v < 16
IsFine (Unit2 v) = (v < 256) × ((v < 0xDC) ⊎ (0xDF < v))
IsFine (Unit3 v) = (v < 4096) × ((v < 0xDC0) ⊎ (0xDFF < v))
IsFine (High h) = (0xD800 ≤ h) × (h ≤ 0xDBFF)
IsFine (HighSlash h) = (0xD800 ≤ h) × (h ≤ 0xDBFF)
IsFine (Low0 h) = (0xD800 ≤ h) × (h ≤ 0xDBFF)
IsFine (Low1 h) = (0xD800 ≤ h) × (h ≤ 0xDBFF)
IsFine (Low2 h v) = (0xD800 ≤ h) × (h ≤ 0xDBFF) × (0xDC ≤ v) × (v ≤ 0xDF)
IsFine (Low3 h v) = (0xD800 ≤ h) × (h ≤ 0xDBFF) × (0xDC0 ≤ v) × (v ≤ 0xDFF)

abbrev pub IsFinePlace : Place → Type 0
IsFinePlace at_value = Unit {0}
IsFinePlace at_first_item = Unit {0}
IsFinePlace (behind v) = Unit {0}
IsFinePlace at_first_key = Unit {0}
IsFinePlace (at_next_key es) = Unit {0}
IsFinePlace (in_key es text e) = IsFine e
IsFinePlace (behind_key es key) = Unit {0}
IsFinePlace (in_string text e) = IsFine e
IsFinePlace (in_number text p) = Unit {0}
IsFinePlace (in_word ls v) = AllByRecursion (λ l. l < 128) ls

-- a string that goes on or has ended, with its text so far
pub data Quote : Type 0 where
  going : List ℕ → Escape → Quote
  closed : List ℕ → Quote

abbrev pub quote_spelled : List ℕ → Option ℕ → Option Quote
quote_spelled text None = None
quote_spelled text (Some c) = Some (going (text ++ encode_utf8 c) Outside)

abbrev pub first_unit : List ℕ → ℕ → Option Quote
first_unit text n =
    if is_high_surrogate n then Some (going text (High n)) else quote_spelled text (Some n)

-- a hexadecimal digit of a unit
abbrev pub digit_quote : List ℕ → Escape → ℕ → Option Quote
digit_quote text Outside d = None
digit_quote text Slash d = None
digit_quote text Unit0 d = Some (going text (Unit1 d))
-- no low surrogate comes first
digit_quote text (Unit1 v) d =
    if is_in_range 0xDC 0xDF (16 * v + d) then None else Some (going text (Unit2 (16 * v + d)))
digit_quote text (Unit2 v) d = Some (going text (Unit3 (16 * v + d)))
digit_quote text (Unit3 v) d = first_unit text (16 * v + d)
digit_quote text (High h) d = None
digit_quote text (HighSlash h) d = None
-- a low surrogate comes second
digit_quote text (Low0 h) d = if d == 0xD then Some (going text (Low1 h)) else None
digit_quote text (Low1 h) d =
    if is_in_range 0xDC 0xDF (0xD0 + d) then Some (going text (Low2 h (0xD0 + d))) else None
digit_quote text (Low2 h v) d = Some (going text (Low3 h (16 * v + d)))
digit_quote text (Low3 h v) d = quote_spelled text (Some (surrogate_pair_char h (16 * v + d)))

abbrev pub hex_step : List ℕ → Escape → ℕ → Option Quote
hex_step text e c = if nat_lt (digit_value c) 16 then digit_quote text e (digit_value c) else None

abbrev pub quote_step : List ℕ → Escape → ℕ → Option Quote
quote_step text Outside c =
    if c == 34 then Some (closed text) else if c == 92 then Some (going text Slash)
    else if nat_le 32 c then quote_spelled text (Some c) else None
quote_step text Slash c =
    if c == 117 then Some (going text Unit0) else quote_spelled text (short_escape c)
quote_step text Unit0 c = hex_step text Unit0 c
quote_step text (Unit1 v) c = hex_step text (Unit1 v) c
quote_step text (Unit2 v) c = hex_step text (Unit2 v) c
quote_step text (Unit3 v) c = hex_step text (Unit3 v) c
quote_step text (High h) c = if c == 92 then Some (going text (HighSlash h)) else None
quote_step text (HighSlash h) c = if c == 117 then Some (going text (Low0 h)) else None
quote_step text (Low0 h) c = hex_step text (Low0 h) c
quote_step text (Low1 h) c = hex_step text (Low1 h) c
quote_step text (Low2 h v) c = hex_step text (Low2 h v) c
quote_step text (Low3 h v) c = hex_step text (Low3 h v) c

-- NUMBERS

abbrev pub part_step : Part → ℕ → Option Part
part_step Minus c = if c == 48 then Some Zero else if is_in_range 49 57 c then Some Whole else None
part_step Zero c = if c == 46 then Some Dot else if is_mark c then Some Mark else None
part_step Whole c =
    if is_ascii_digit c then Some Whole else if c == 46 then Some Dot
    else if is_mark c then Some Mark else None
part_step Dot c = if is_ascii_digit c then Some Fraction else None
part_step Fraction c =
    if is_ascii_digit c then Some Fraction else if is_mark c then Some Mark else None
part_step Mark c = if is_ascii_digit c then Some Exponent else if is_sign c then Some Sign else None
part_step Sign c = if is_ascii_digit c then Some Exponent else None
part_step Exponent c = if is_ascii_digit c then Some Exponent else None

-- a number may end here
abbrev pub is_done : Part → Bool
is_done Minus = false
is_done Zero = true
is_done Whole = true
is_done Dot = false
is_done Fraction = true
is_done Mark = false
is_done Sign = false
is_done Exponent = true

-- PLACES

-- a value's first character
abbrev pub value_move : List Frame → ℕ → Move
value_move fs c =
    if c == 110 then goes (state (in_word (codes "ull") null) fs) else
    if c == 116 then goes (state (in_word (codes "rue") (boolean true)) fs) else
    if c == 102 then goes (state (in_word (codes "alse") (boolean false)) fs) else
    if c == 34 then goes (state (in_string [] Outside) fs) else
    if c == 45 then goes (state (in_number (c ∷ []) Minus) fs) else
    if c == 48 then goes (state (in_number (c ∷ []) Zero) fs) else
    if is_in_range 49 57 c then goes (state (in_number (c ∷ []) Whole) fs) else
    if c == 91 then opens (state at_first_item fs) else
    if c == 123 then opens (state at_first_key fs) else stops

-- a character behind a value and its white space
abbrev pub next_move : Json → List Frame → ℕ → Move
next_move v [] c = stops
next_move v (in_list vs ∷ fs) c =
    if c == 44 then goes (state at_value (in_list (vs ++ v ∷ []) ∷ fs)) else
    if c == 93 then goes (state (behind (array (items_with (vs ++ v ∷ []) no_items))) fs) else stops
next_move v (in_object es key ∷ fs) c =
    if c == 44 then goes (state (at_next_key (es ++ (key, v) ∷ [])) fs) else
    if c == 125 then goes
    (state (behind (object (members_with (es ++ (key, v) ∷ []) no_members))) fs) else stops

abbrev pub behind_move : Json → List Frame → ℕ → Move
behind_move v fs c = if is_space c then goes (state (behind v) fs) else next_move v fs c

abbrev pub key_move : Entries → List Frame → Option Quote → Move
key_move es fs None = stops
key_move es fs (Some (going text e)) = goes (state (in_key es text e) fs)
key_move es fs (Some (closed text)) = names (entry_keys es) text (state (behind_key es text) fs)

abbrev pub string_move : List Frame → Option Quote → Move
string_move fs None = stops
string_move fs (Some (going text e)) = goes (state (in_string text e) fs)
string_move fs (Some (closed text)) = goes (state (behind (string text)) fs)

abbrev pub number_move : List ℕ → List Frame → ℕ → Bool → Option Part → Move
number_move text fs c done (Some p) = goes (state (in_number (text ++ c ∷ []) p) fs)
number_move text fs c true None = behind_move (number text) fs c
number_move text fs c false None = stops

abbrev pub word_move : List ℕ → Json → List Frame → ℕ → Move
word_move [] v fs c = behind_move v fs c
word_move (l ∷ ls) v fs c = if c == l then goes (state (in_word ls v) fs) else stops

abbrev pub move : Place → List Frame → ℕ → Move
move at_value fs c = if is_space c then goes (state at_value fs) else value_move fs c
move at_first_item fs c =
    if is_space c then goes (state at_first_item fs) else
    if c == 93 then goes (state (behind (array no_items)) fs) else value_move (in_list [] ∷ fs) c
move (behind v) fs c = behind_move v fs c
move at_first_key fs c =
    if is_space c then goes (state at_first_key fs) else
    if c == 34 then goes (state (in_key [] [] Outside) fs) else
    if c == 125 then goes (state (behind (object no_members)) fs) else stops
move (at_next_key es) fs c =
    if is_space c then goes (state (at_next_key es) fs) else
    if c == 34 then goes (state (in_key es [] Outside) fs) else stops
move (in_key es text e) fs c = key_move es fs (quote_step text e c)
move (behind_key es key) fs c =
    if is_space c then goes (state (behind_key es key) fs) else
    if c == 58 then goes (state at_value (in_object es key ∷ fs)) else stops
move (in_string text e) fs c = string_move fs (quote_step text e c)
move (in_number text p) fs c = number_move text fs c (is_done p) (part_step p c)
move (in_word ls v) fs c = word_move ls v fs c

-- what the rules say to a move
abbrev pub under_rules : Rules → Move → Result State JsonKind
under_rules rules (goes s) = Ok s
under_rules rules (opens s) = if nat_lt (length s.frames) rules.limit then Ok s else Err Depth
under_rules rules (names earlier key s) =
    if may_follow rules earlier key then Ok s else Err Duplicate
under_rules rules stops = Err Syntax

abbrev pub step : Rules → State → ℕ → Result State JsonKind
step rules s c = under_rules rules (move s.place s.frames c)

abbrev pub start : State
start = state at_value []

-- from a state over these characters
abbrev pub run_on : Rules → Result State JsonKind → ℕ → Result State JsonKind
run_on rules (Ok s) c = step rules s c
run_on rules (Err kind) c = Err kind

abbrev pub run : Rules → Result State JsonKind → List ℕ → Result State JsonKind
run rules r [] = r
run rules r (c ∷ cs) = run rules (run_on rules r c) cs

-- the value of a text that ends in this state
abbrev pub ended_value : Place → List Frame → Option Json
ended_value at_value fs = None
ended_value at_first_item fs = None
ended_value (behind v) [] = Some v
ended_value (behind v) (f ∷ fs) = None
ended_value at_first_key fs = None
ended_value (at_next_key es) fs = None
ended_value (in_key es text e) fs = None
ended_value (behind_key es key) fs = None
ended_value (in_string text e) fs = None
ended_value (in_number text p) [] = if is_done p then Some (number text) else None
ended_value (in_number text p) (f ∷ fs) = None
ended_value (in_word [] v) [] = Some v
ended_value (in_word (l ∷ ls) v) [] = None
ended_value (in_word ls v) (f ∷ fs) = None
