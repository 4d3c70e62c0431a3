-- JSON values as the profile reads them.
use Rattle.std.specs.Prelude.{ℕ, ◌^◌, Bool, ◌&&◌, nat_lt, nat_le, if◌then◌else◌, List, [], ◌∷◌, length, map, find, Option, Some, None, is_some, option_and_then, unwrap_or, codes}
use Rattle.std.specs.Option.{option_map}
use Rattle.std.specs.Char.{is_ascii_digit}
use Rattle.std.specs.List.{list_all}
use Rattle.std.specs.Str.{bytes_eq}
use Rattle.std.specs.Str.Parse.{digits_value}
use Rattle.json_order.specs.Json.{Json, null, boolean, number, string, array, object, Items, no_items, item, Members, no_members, member}
use Rattle.json_order.specs.declared.lent.LentText.{LentText}
use Rattle.json_order.specs.declared.lent.LentTree.{LentTree}
use Rattle.json_order.specs.Lent.{text_bytes, lent_json}

-- a key and its value
pub record Member : Type 0 where
  pub key : List ℕ
  pub value : Json

abbrev pub members_in : Members → List Member
members_in no_members = []
members_in (member key value ms) = record { key = key; value = value } ∷ members_in ms

abbrev pub items_in : Items → List Json
items_in no_items = []
items_in (item value items) = value ∷ items_in items

-- the members of an object, in text order
abbrev pub object_of : Json → Option (List Member)
object_of null = None
object_of (boolean b) = None
object_of (number text) = None
object_of (string text) = None
object_of (array items) = None
object_of (object ms) = Some (members_in ms)

abbrev pub list_of : Json → Option (List Json)
list_of null = None
list_of (boolean b) = None
list_of (number text) = None
list_of (string text) = None
list_of (array items) = Some (items_in items)
list_of (object ms) = None

abbrev pub text_value : Json → Option (List ℕ)
text_value null = None
text_value (boolean b) = None
text_value (number text) = None
text_value (string text) = Some text
text_value (array items) = None
text_value (object ms) = None

-- a number, as its own text
abbrev pub numeral_of : Json → Option (List ℕ)
numeral_of null = None
numeral_of (boolean b) = None
numeral_of (number text) = Some text
numeral_of (string text) = None
numeral_of (array items) = None
numeral_of (object ms) = None

-- digits whose number is within 64 signed bits
abbrev pub is_natural : List ℕ → Bool
is_natural text =
    nat_lt 0 (length text) && list_all is_ascii_digit text && nat_lt (digits_value 10 text) (2 ^ 63)

-- The whole number of a number's text, where it is not below 0: digits alone, or -0, which is 0. A
-- number with a fraction or an exponent is no whole number.
unfoldable pub natural_in : List ℕ → Option ℕ
natural_in text =
    if bytes_eq text (codes "-0") then Some 0
    else (if is_natural text then Some (digits_value 10 text) else None)

abbrev pub natural_of : Json → Option ℕ
natural_of value = option_and_then natural_in (numeral_of value)

-- a whole number from the least to the most
unfoldable pub natural_within : ℕ → ℕ → Json → Option ℕ
natural_within least most value =
    option_and_then (λ n. if nat_le least n && nat_le n most then Some n else None)
    (natural_of value)

-- the members of an object; another value has none
abbrev pub members : Json → List Member
members value = unwrap_or (object_of value) []

abbrev pub is_at : List ℕ → Member → Bool
is_at key m = bytes_eq m.key key

-- the value at a key
unfoldable pub at : List ℕ → List Member → Option Json
at key ms = option_map (λ m. m.value) (find (is_at key) ms)

abbrev pub has : List ℕ → List Member → Bool
has key ms = is_some (at key ms)

-- the members at a key, where an object stands there
abbrev pub members_at : List ℕ → List Member → List Member
members_at key ms = members (unwrap_or (at key ms) null)

-- members as the code has them
abbrev pub member_of : LentText × LentTree → Member
member_of m = record { key = text_bytes m.0; value = lent_json m.1 }

abbrev pub members_of : List (LentText × LentTree) → List Member
members_of ms = map member_of ms
