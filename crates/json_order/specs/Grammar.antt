-- How a list of characters spells a value: JSON (RFC 8259), narrowed where a comment says "own".
--
-- `IsX .. before after` says: the characters `before` are a spelling of X, and then the characters
-- `after`. A character is its code. A text is such a list of which nothing is left over.
use Rattle.std.specs.Prelude.{ℕ, zero, suc, ◌+◌, ◌*◌, ◌<◌, ◌≡◌, Bool, true, false, ◌&&◌, ◌||◌, not, ◌==◌, nat_le, if◌then◌else◌, ◌⊎◌, List, [], ◌∷◌, ◌++◌, Option, Some, None, codes, encode_utf8_all}
use Rattle.std.specs.List.{AllByRecursion}
use Rattle.std.specs.Char.{IsScalar, is_ascii_digit, digit_value}
use Rattle.std.specs.Char.Utf16.{surrogate_pair_char}
use Rattle.std.specs.Int.{is_in_range}
use Rattle.std.specs.Str.{bytes_eq}
use Rattle.json_order.specs.Json.{Json, null, boolean, number, string, array, object, Items, no_items, item, Members, no_members, member}

-- what a text may do: how deep its lists and objects nest, where the outermost has depth 1, and
-- whether two members of one object may have one key (both limits are own: RFC 8259 sections 9 and
-- 4 leave them open)
pub record Rules : Type 0 where
  pub limit : ℕ
  pub repeats : Bool

-- WHITE SPACE (section 2)

-- space, tab, line feed, carriage return
abbrev pub is_space : ℕ → Bool
is_space c = c == 32 || (c == 9 || (c == 10 || c == 13))

abbrev pub AreSpaces : List ℕ → Type 0
AreSpaces spaces = AllByRecursion (λ c. is_space c ≡ true) spaces

-- any white space, or none
abbrev pub IsSpaced : List ℕ → List ℕ → Type 0
IsSpaced before after = (spaces : List ℕ) × AreSpaces spaces × (before ≡ spaces ++ after)

-- NUMBERS (section 6)

-- digits, or none
abbrev pub AreDigits : List ℕ → Type 0
AreDigits digits = AllByRecursion (λ c. is_ascii_digit c ≡ true) digits

-- one digit or more
abbrev pub SomeDigits : List ℕ → Type 0
SomeDigits [] = ⊥
SomeDigits (d ∷ digits) = (is_ascii_digit d ≡ true) × AreDigits digits

-- `0` alone, or digits that do not begin with `0`
abbrev pub IsInteger : List ℕ → Type 0
IsInteger [] = ⊥
IsInteger (d ∷ digits) =
    ((d ≡ 48) × (digits ≡ [])) ⊎ ((is_in_range 49 57 d ≡ true) × AreDigits digits)

-- nothing, or `.` and digits
abbrev pub IsFraction : List ℕ → Type 0
IsFraction [] = Unit {0}
IsFraction (c ∷ digits) = (c ≡ 46) × SomeDigits digits

-- `+` or `-`
abbrev pub is_sign : ℕ → Bool
is_sign c = c == 43 || c == 45

-- digits, with or without a sign
abbrev pub IsPower : List ℕ → Type 0
IsPower [] = ⊥
IsPower (c ∷ digits) = SomeDigits (c ∷ digits) ⊎ ((is_sign c ≡ true) × SomeDigits digits)

-- `e` or `E`
abbrev pub is_mark : ℕ → Bool
is_mark c = c == 101 || c == 69

-- nothing, or `e` or `E` and a power
abbrev pub IsExponent : List ℕ → Type 0
IsExponent [] = Unit {0}
IsExponent (c ∷ power) = (is_mark c ≡ true) × IsPower power

abbrev pub IsUnsigned : List ℕ → Type 0
IsUnsigned text =
    (integer fraction exponent : List ℕ) × IsInteger integer × IsFraction fraction
    × IsExponent exponent × (text ≡ integer ++ (fraction ++ exponent))

-- `-` may stand in front
abbrev pub IsNumber : List ℕ → Type 0
IsNumber [] = ⊥
IsNumber (c ∷ more) = IsUnsigned (c ∷ more) ⊎ ((c ≡ 45) × IsUnsigned more)

-- STRINGS (section 7)

-- any character from the space on but `"` and `\`
abbrev pub is_plain : ℕ → Bool
is_plain c = nat_le 32 c && (not (c == 34) && not (c == 92))

-- what a backslash and one more character spell: `"`, `\`, `/`, and b, f, n, r, t
abbrev pub short_escape : ℕ → Option ℕ
short_escape e =
    if e == 34 then Some 34 else
    if e == 92 then Some 92 else
    if e == 47 then Some 47 else
    if e == 98 then Some 8 else
    if e == 102 then Some 12 else
    if e == 110 then Some 10 else
    if e == 114 then Some 13 else
    if e == 116 then Some 9 else None

-- so many hexadecimal digits, which continue the number `high` to the number `n`
abbrev pub IsHex : ℕ → ℕ → ℕ → List ℕ → List ℕ → Type 0
IsHex zero high n before after = (n ≡ high) × (before ≡ after)
IsHex (suc count) high n before after =
    (digit : ℕ) × (mid : List ℕ) × (before ≡ digit ∷ mid) × (digit_value digit < 16)
    × IsHex count (16 * high + digit_value digit) n mid after

-- `\u` and four hexadecimal digits, the unit of UTF-16 with this number
abbrev pub IsUnit : ℕ → List ℕ → List ℕ → Type 0
IsUnit n before after = (mid : List ℕ) × (before ≡ 92 ∷ 117 ∷ mid) × IsHex 4 0 n mid after

abbrev pub is_high_surrogate : ℕ → Bool
is_high_surrogate n = is_in_range 0xD800 0xDBFF n

abbrev pub is_low_surrogate : ℕ → Bool
is_low_surrogate n = is_in_range 0xDC00 0xDFFF n

-- one character of a string. No surrogate stands alone (own: section 8.2 leaves that open).
pub data IsCharacter (c : ℕ) (before after : List ℕ) : Type 0 where
  plain : is_plain c ≡ true → before ≡ c ∷ after → IsCharacter c before after
  short : (e : ℕ) → short_escape e ≡ Some c → before ≡ 92 ∷ e ∷ after → IsCharacter c before after
  one_unit : IsScalar c → IsUnit c before after → IsCharacter c before after
  two_units : (high low : ℕ) (mid : List ℕ) → is_high_surrogate high ≡ true
      → is_low_surrogate low ≡ true → c ≡ surrogate_pair_char high low → IsUnit high before mid
      → IsUnit low mid after → IsCharacter c before after

-- these characters, and the closing quote
abbrev pub AreCharacters : List ℕ → List ℕ → List ℕ → Type 0
AreCharacters [] before after = before ≡ 34 ∷ after
AreCharacters (c ∷ cs) before after =
    (mid : List ℕ) × IsCharacter c before mid × AreCharacters cs mid after

-- a quote, the characters of a text in UTF-8, and a quote
abbrev pub IsString : List ℕ → List ℕ → List ℕ → Type 0
IsString bytes before after =
    (cs : List ℕ) × (mid : List ℕ) × (before ≡ 34 ∷ mid) × (bytes ≡ encode_utf8_all cs)
    × AreCharacters cs mid after

-- VALUES (sections 3 to 5)

-- the key is one of these
abbrev pub has_key : List (List ℕ) → List ℕ → Bool
has_key [] key = false
has_key (k ∷ keys) key = bytes_eq k key || has_key keys key

-- the key may stand behind these in one object
abbrev pub may_follow : Rules → List (List ℕ) → List ℕ → Bool
may_follow rules keys key = rules.repeats || not (has_key keys key)

-- white space, a key that may stand behind the earlier keys of its object, white space, a colon
abbrev pub IsKey : Rules → List (List ℕ) → List ℕ → List ℕ → List ℕ → Type 0
IsKey rules keys key before after =
    (s k c : List ℕ) × IsSpaced before s × IsString key s k × (may_follow rules keys key ≡ true)
    × IsSpaced k c × (c ≡ 58 ∷ after)

abbrev mutual
  -- a value that stands inside of so many lists and objects
  pub IsValue : Rules → ℕ → Json → List ℕ → List ℕ → Type 0
  IsValue rules depth null before after = before ≡ codes "null" ++ after
  IsValue rules depth (boolean true) before after = before ≡ codes "true" ++ after
  IsValue rules depth (boolean false) before after = before ≡ codes "false" ++ after
  IsValue rules depth (number text) before after = IsNumber text × (before ≡ text ++ after)
  IsValue rules depth (string bytes) before after = IsString bytes before after
  IsValue rules depth (array items) before after =
      (depth < rules.limit)
      × ((mid : List ℕ) × (before ≡ 91 ∷ mid) × AreItems rules (suc depth) items mid after)
  IsValue rules depth (object members) before after =
      (depth < rules.limit)
      × ((mid : List ℕ) × (before ≡ 123 ∷ mid) × AreMembers rules (suc depth) members mid after)

  -- what stands behind `[`, up to and with its `]`
  pub AreItems : Rules → ℕ → Items → List ℕ → List ℕ → Type 0
  AreItems rules depth no_items before after = IsSpaced before (93 ∷ after)
  AreItems rules depth (item v items) before after =
      (s e m : List ℕ) × IsSpaced before s × IsValue rules depth v s e × IsSpaced e m
      × AreMoreItems rules depth items m after

  -- what stands behind an item and its white space, up to and with the `]`
  pub AreMoreItems : Rules → ℕ → Items → List ℕ → List ℕ → Type 0
  AreMoreItems rules depth no_items before after = before ≡ 93 ∷ after
  AreMoreItems rules depth (item v items) before after =
      (b s e m : List ℕ) × (before ≡ 44 ∷ b) × IsSpaced b s × IsValue rules depth v s e
      × IsSpaced e m × AreMoreItems rules depth items m after

  -- what stands behind `{`, up to and with its `}`
  pub AreMembers : Rules → ℕ → Members → List ℕ → List ℕ → Type 0
  AreMembers rules depth no_members before after = IsSpaced before (125 ∷ after)
  AreMembers rules depth (member key v members) before after =
      (k s e m : List ℕ) × IsKey rules [] key before k × IsSpaced k s × IsValue rules depth v s e
      × IsSpaced e m × AreMoreMembers rules depth (key ∷ []) members m after

  -- what stands behind the members with these keys, up to and with the `}`
  pub AreMoreMembers : Rules → ℕ → List (List ℕ) → Members → List ℕ → List ℕ → Type 0
  AreMoreMembers rules depth keys no_members before after = before ≡ 125 ∷ after
  AreMoreMembers rules depth keys (member key v members) before after =
      (b k s e m : List ℕ) × (before ≡ 44 ∷ b) × IsKey rules keys key b k × IsSpaced k s
      × IsValue rules depth v s e × IsSpaced e m
      × AreMoreMembers rules depth (keys ++ key ∷ []) members m after

-- a text (section 2): white space, one value, white space
abbrev pub IsText : Rules → Json → List ℕ → Type 0
IsText rules v characters =
    (s e : List ℕ) × IsSpaced characters s × IsValue rules 0 v s e × IsSpaced e []
