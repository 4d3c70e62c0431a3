-- Worked rows: text on one line.
use Rattle.std.specs.Prelude.{◌≡◌, [], ◌∷◌, codes, refl}
use Rattle.one_line.specs.Shown.{shown_character, shown_byte}

-- ESC, DEL and U+0085 (NEL)
escape : shown_character 27 ≡ codes "\\u001b"
escape = refl

delete : shown_character 127 ≡ codes "\\u007f"
delete = refl

next_line : shown_character 133 ≡ codes "\\u0085"
next_line = refl

-- U+202E, which turns round what follows it, and U+2069, which ends such a part
right_to_left : shown_character 8238 ≡ codes "\\u202e"
right_to_left = refl

end_of_isolate : shown_character 8297 ≡ codes "\\u2069"
end_of_isolate = refl

-- U+00E4 and U+2027 are shown as themselves
letter : shown_character 228 ≡ 195 ∷ 164 ∷ []
unfolding lib.Utf8.encode
letter = refl

point : shown_character 8231 ≡ 226 ∷ 128 ∷ 167 ∷ []
unfolding lib.Utf8.encode
point = refl

-- a byte that is no ASCII character, of bytes that are no UTF-8
high_byte : shown_byte 155 ≡ codes "\\x9b"
high_byte = refl
