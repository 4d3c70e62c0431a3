-- Keys that their object has already, in a text without comments. json-c 0.16 keeps the last value
-- of such a key, which workgen of rt-app 1.0 therefore renames first (check_unikid_json). Keys are
-- compared as they are spelled (own: as workgen does).
use Rattle.std.specs.Prelude.{ℕ, ◌+◌, ◌-◌, List, [], ◌∷◌, ◌++◌, Bool, true, false, ◌==◌, if◌then◌else◌, nat_lt, take, drop, length, count_by, slice_index}
use Rattle.std.specs.Str.{bytes_eq}
use Rattle.rtapp_dialect.specs.Filling.{opens, closes, quote_after, last_after, inside_after}
use Rattle.rtapp_dialect.specs.declared.bracket.Bracket.{Bracket}
use Rattle.rtapp_dialect.specs.declared.spot.Quote.{Quote}
use Rattle.rtapp_dialect.specs.declared.spot.Quote.TheVariants.{Closed, Open, Escaped}
use Rattle.rtapp_dialect.specs.declared.spot.Last.{Last}
use Rattle.rtapp_dialect.specs.declared.spot.Last.TheVariants.{Opening, Comma, Key, Other}
use Rattle.rtapp_dialect.specs.declared.keys.Span.{Span}
use Rattle.rtapp_dialect.specs.declared.repeats.Repeat.{Repeat}

-- the bytes between the quotes of a key
abbrev pub spelled_at : List ℕ → Span → List ℕ
spelled_at text key = take (key.end - key.start) (drop key.start text)

-- how many keys there were when the innermost bracket was opened
abbrev pub last_mark : List ℕ → ℕ
last_mark marks = slice_index marks (length marks - 1)

-- how many keys of the innermost object are spelled as this one
abbrev pub earlier_in : List ℕ → List ℕ → List Span → Span → ℕ
earlier_in text marks keys key =
    count_by (λ k. bytes_eq (spelled_at text k) (spelled_at text key)) (drop (last_mark marks) keys)

-- c is the quote that ends a key
abbrev pub ends_key : Quote → Last → ℕ → Bool
ends_key Open Key c = c == 34
ends_key Open Opening c = false
ends_key Open Comma c = false
ends_key Open Other c = false
ends_key Closed last c = false
ends_key Escaped last c = false

-- c closes a bracket, and c opens one
abbrev pub shuts : Quote → ℕ → Bool
shuts Closed c = closes c
shuts Open c = false
shuts Escaped c = false

abbrev pub starts_bracket : Quote → ℕ → Bool
starts_bracket Closed c = opens c
starts_bracket Open c = false
starts_bracket Escaped c = false

-- where the last string starts, after the byte c at n
abbrev pub start_after : Quote → ℕ → ℕ → ℕ → ℕ
start_after Closed start n c = if c == 34 then n + 1 else start
start_after Open start n c = start
start_after Escaped start n c = start

-- the keys of the open objects, a new one last
abbrev pub keys_after : Bool → Bool → ℕ → List Span → Span → List Span
keys_after true shut mark keys key = keys ++ key ∷ []
keys_after false true mark keys key = take mark keys
keys_after false false mark keys key = keys

-- how many keys there were at each open bracket, innermost last
abbrev pub marks_after : Bool → Bool → ℕ → List ℕ → List ℕ
marks_after true shut count marks = marks ++ count ∷ []
marks_after false true count marks = take (length marks - 1) marks
marks_after false false count marks = marks

abbrev pub key_span : ℕ → ℕ → Span
key_span start end = record { start = start; end = end }

abbrev pub repeat_at : ℕ → ℕ → List Repeat
repeat_at n count = if nat_lt 0 count then record { at = n; earlier = count } ∷ [] else []

abbrev pub repeat_if : Bool → ℕ → ℕ → List Repeat
repeat_if true n count = repeat_at n count
repeat_if false n count = []

-- the repeated keys of the rest of a text, from the byte at n on
abbrev pub repeats_from :
    List ℕ → Quote → Last → List Bracket → ℕ → List ℕ → List Span → ℕ → List ℕ → List Repeat
repeats_from text quote last inside start marks keys n [] = []
repeats_from text quote last inside start marks keys n (c ∷ cs) =
    repeat_if (ends_key quote last c) n (earlier_in text marks keys (key_span start n))
    ++ repeats_from text (quote_after quote c) (last_after quote last inside c)
    (inside_after quote inside c) (start_after quote start n c)
    (marks_after (starts_bracket quote c) (shuts quote c) (length keys) marks)
    (keys_after (ends_key quote last c) (shuts quote c) (last_mark marks) keys (key_span start n))
    (n + 1) cs

-- the keys that their object has already
abbrev pub repeats_in : List ℕ → List Repeat
repeats_in text = repeats_from text Closed Other [] 0 [] [] 0 text
