-- Text on one line (own): what a terminal does not show as itself is escaped. That are the control
-- characters (Unicode, general category Cc), the separators of lines and of paragraphs (Zl, Zp),
-- and the marks that change the direction of text (Unicode Standard Annex 9, "Directional
-- Formatting Characters", but for U+061C, U+200E and U+200F, which only mark a place).
use Rattle.std.specs.Prelude.{ℕ, List, [], ◌∷◌, ◌++◌, ◌+◌, ◌-◌, ◌/◌, ◌%◌, Bool, ◌||◌, ◌&&◌, not, nat_lt, if◌then◌else◌, codes, flat_map}
use Rattle.std.specs.Char.{encode_utf8}
use Rattle.std.specs.Str.{chars, is_utf8}

abbrev pub lies_within : ℕ → ℕ → ℕ → Bool
lies_within first last c = not (nat_lt c first) && not (nat_lt last c)

-- a character that is shown as itself
abbrev pub prints : ℕ → Bool
prints c =
    not (nat_lt c 32
    || (lies_within 127 159 c
    || (lies_within 8232 8238 c || lies_within 8294 8297 c)))

-- a digit to the base 16, in lower case
abbrev pub hex_digit : ℕ → ℕ
hex_digit n = if nat_lt n 10 then 48 + n else 97 + (n - 10)

abbrev pub hex_pair : ℕ → List ℕ
hex_pair n = hex_digit (n / 16 % 16) ∷ hex_digit (n % 16) ∷ []

-- any other has its number, in four digits
abbrev pub shown_character : ℕ → List ℕ
shown_character c =
    if prints c then encode_utf8 c
    else codes "\\u" ++ (hex_pair (c / 256) ++ hex_pair c)

abbrev pub shown : List ℕ → List ℕ
shown text = flat_map shown_character (chars text)

-- a byte of what is no UTF-8: a printed ASCII character is shown as itself
abbrev pub shown_byte : ℕ → List ℕ
shown_byte byte =
    if lies_within 32 126 byte then byte ∷ [] else codes "\\x" ++ hex_pair byte

abbrev pub shown_bytes : List ℕ → List ℕ
shown_bytes bytes = if is_utf8 bytes then shown bytes else flat_map shown_byte bytes
