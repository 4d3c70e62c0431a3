-- Which bytes are accepted, and what the fault of the others is.
use Rattle.std.specs.Prelude.{ℕ, ◌+◌, ◌<◌, ◌≤◌, ◌≡◌, true, false, ◌⊎◌, List, ◌++◌, length, take, slice_get, Some, encode_utf8_all, IsUtf8}
use Rattle.std.specs.Str.{all_scalars, IsValidUpTo}
use Rattle.json_order.specs.Json.{Json}
use Rattle.json_order.specs.Grammar.{Rules, IsText}
use Rattle.json_order.specs.declared.fault.JsonKind.{JsonKind}
use Rattle.json_order.specs.declared.fault.JsonKind.TheVariants.{Syntax, End, Depth, Duplicate, Utf8, Memory}

-- the number of a kind (own)
abbrev pub kind_number : JsonKind → ℕ
kind_number Syntax = 10
kind_number End = 11
kind_number Depth = 12
kind_number Duplicate = 13
kind_number Utf8 = 14
kind_number Memory = 15

-- at most sixteen lists and objects inside one another, and no key twice in one object
abbrev pub strict : Rules
strict = record { limit = 16; repeats = false }

-- one level more
abbrev pub deeper : Rules
deeper = record { limit = 17; repeats = false }

-- keys may repeat
abbrev pub repeating : Rules
repeating = record { limit = 16; repeats = true }

-- the bytes are the UTF-8 of characters that spell the value
abbrev pub Spells : Rules → List ℕ → Json → Type 0
Spells rules bytes v =
    (characters : List ℕ) × (all_scalars characters ≡ true) × (bytes ≡ encode_utf8_all characters)
    × IsText rules v characters

-- some accepted text begins with these bytes
abbrev pub BeginsText : Rules → List ℕ → Type 0
BeginsText rules front = (rest : List ℕ) × (v : Json) × Spells rules (front ++ rest) v

-- the first n bytes begin an accepted text, and no longer front of the input does
pub record IsLongestFront (bytes : List ℕ) (n : ℕ) : Type 0 where
  pub within : n ≤ length bytes
  pub begins : BeginsText strict (take n bytes)
  pub longest : (m : ℕ) → n < m → m ≤ length bytes → ¬ (BeginsText strict (take m bytes))

-- the byte at n is `[` or `{` where a value may begin, and opens one level too many
abbrev pub OpensTooDeep : List ℕ → ℕ → Type 0
OpensTooDeep bytes n =
    ((slice_get bytes n ≡ Some 91) ⊎ (slice_get bytes n ≡ Some 123))
    × BeginsText deeper (take (n + 1) bytes)

-- the byte at n is the quote that closes a key, which its object has already
abbrev pub RepeatsKey : List ℕ → ℕ → Type 0
RepeatsKey bytes n = (slice_get bytes n ≡ Some 34) × BeginsText repeating (take (n + 1) bytes)

-- the fault of an input, by its kind, is at this place
abbrev pub IsJsonFault : List ℕ → JsonKind → ℕ → Type 0
-- the first byte that is no part of a well-formed character, wherever else the input goes wrong
IsJsonFault bytes Utf8 n = IsValidUpTo bytes n
-- the whole input begins an accepted text and is none
IsJsonFault bytes End n =
    IsUtf8 bytes × IsLongestFront bytes n × (n ≡ length bytes)
    × ((v : Json) → ¬ (Spells strict bytes v))
IsJsonFault bytes Depth n =
    IsUtf8 bytes × IsLongestFront bytes n × (n < length bytes) × OpensTooDeep bytes n
IsJsonFault bytes Duplicate n =
    IsUtf8 bytes × IsLongestFront bytes n × (n < length bytes) × RepeatsKey bytes n
-- any other byte
IsJsonFault bytes Syntax n =
    IsUtf8 bytes × IsLongestFront bytes n × (n < length bytes) × ¬ (OpensTooDeep bytes n)
    × ¬ (RepeatsKey bytes n)
-- a growth was refused, which may come before any fault
IsJsonFault bytes Memory n = n ≡ 0
