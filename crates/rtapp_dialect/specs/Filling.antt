-- Commas and values of rt-app's files, in a text without comments. json-c 0.16 takes one comma
-- between the last item or member and the closing bracket (json_tokener.c, the states
-- `array_after_sep` and `object_field_start_after_sep`). rt-app's own files leave out the value of
-- a key (`"suspend",`), which workgen of rt-app 1.0 adds (check_suspend_json). Here it is `null`
-- (own), wherever a comma or the closing bracket follows a key.
use Rattle.std.specs.Prelude.{ℕ, ◌+◌, ◌-◌, not, take, List, [], ◌∷◌, ◌++◌, Option, Some, None, Bool, true, false, ◌==◌, ◌&&◌, ◌||◌, if◌then◌else◌, codes, length}
use Rattle.std.specs.List.{slice_get}
use Rattle.json_order.specs.Grammar.{is_space}
use Rattle.rtapp_dialect.specs.declared.bracket.Bracket.{Bracket}
use Rattle.rtapp_dialect.specs.declared.bracket.Bracket.TheVariants.{Square, Curly}
use Rattle.rtapp_dialect.specs.declared.spot.Quote.{Quote}
use Rattle.rtapp_dialect.specs.declared.spot.Quote.TheVariants.{Closed, Open, Escaped}
use Rattle.rtapp_dialect.specs.declared.spot.Last.{Last}
use Rattle.rtapp_dialect.specs.declared.spot.Last.TheVariants.{Opening, Comma, Key, Other}
use Rattle.rtapp_dialect.specs.declared.insertion.Insertion.{Insertion}

-- `[` or `{`, and `]` or `}`
abbrev pub opens : ℕ → Bool
opens c = c == 91 || c == 123

abbrev pub closes : ℕ → Bool
closes c = c == 93 || c == 125

-- the first byte that is no white space, or 0
abbrev pub first_solid : List ℕ → ℕ
first_solid [] = 0
first_solid (c ∷ cs) = if is_space c then first_solid cs else c

-- whether the byte after c is in a string: 34 is the quote, 92 the backslash
abbrev pub quote_after : Quote → ℕ → Quote
quote_after Closed c = if c == 34 then Open else Closed
quote_after Open c = if c == 92 then Escaped else if c == 34 then Closed else Open
quote_after Escaped c = Open

-- the brackets that are open, innermost last
abbrev pub inside_after : Quote → List Bracket → ℕ → List Bracket
inside_after Closed inside c =
    if c == 91 then inside ++ Square ∷ [] else
    if c == 123 then inside ++ Curly ∷ [] else
    if closes c then take (length inside - 1) inside else inside
inside_after Open inside c = inside
inside_after Escaped inside c = inside

abbrev pub is_curly : Option Bracket → Bool
is_curly (Some Curly) = true
is_curly (Some Square) = false
is_curly None = false

-- a member may begin here
abbrev pub may_begin : Last → Bool
may_begin Opening = true
may_begin Comma = true
may_begin Key = false
may_begin Other = false

-- a string that begins here is a key
abbrev pub is_key_place : Last → List Bracket → Bool
is_key_place last inside = may_begin last && is_curly (slice_get inside (length inside - 1))

abbrev pub string_part : Bool → Last
string_part true = Key
string_part false = Other

-- what the last part was, after c
abbrev pub last_after : Quote → Last → List Bracket → ℕ → Last
last_after Closed last inside c =
    if is_space c then last else
    if c == 34 then string_part (is_key_place last inside) else
    if opens c then Opening else
    if c == 44 then Comma else Other
last_after Open last inside c = last
last_after Escaped last inside c = last

-- c follows a key, and is the comma or bracket that follows a member
abbrev pub lacks_value : Quote → Last → ℕ → Bool
lacks_value Closed Key c = c == 44 || c == 125
lacks_value Closed Opening c = false
lacks_value Closed Comma c = false
lacks_value Closed Other c = false
lacks_value Open last c = false
lacks_value Escaped last c = false

-- the value that is added
abbrev pub added_value : List ℕ
added_value = codes ":null"

abbrev pub added : Bool → List ℕ
added true = added_value
added false = []

-- what is written for the byte c, where `solid` is the first byte after it that is no white space
abbrev pub byte_kept : Quote → Last → ℕ → ℕ → ℕ
byte_kept Closed last c solid =
    if c == 44 && (not (may_begin last) && closes solid) then 32 else c
byte_kept Open last c solid = c
byte_kept Escaped last c solid = c

abbrev pub filled_from : Quote → Last → List Bracket → List ℕ → List ℕ
filled_from quote last inside [] = []
filled_from quote last inside (c ∷ cs) =
    added (lacks_value quote last c)
    ++ (byte_kept quote last c (first_solid cs)
    ∷ filled_from (quote_after quote c) (last_after quote last inside c)
    (inside_after quote inside c) cs)

-- the text without last commas and with a value for each key
abbrev pub values_filled : List ℕ → List ℕ
values_filled text = filled_from Closed Other [] text

abbrev pub insertion_at : ℕ → Insertion
insertion_at n = record { at = n; len = length added_value }

abbrev pub inserted_at : Bool → ℕ → List Insertion
inserted_at true n = insertion_at n ∷ []
inserted_at false n = []

-- the insertions from the byte at n on
abbrev pub inserted_from : Quote → Last → List Bracket → ℕ → List ℕ → List Insertion
inserted_from quote last inside n [] = []
inserted_from quote last inside n (c ∷ cs) =
    inserted_at (lacks_value quote last c) n
    ++ inserted_from (quote_after quote c) (last_after quote last inside c)
    (inside_after quote inside c) (n + 1) cs

-- where values were added
abbrev pub values_inserted : List ℕ → List Insertion
values_inserted text = inserted_from Closed Other [] 0 text
