-- Worked rows, computed by the definitions.
use Rattle.std.specs.Prelude.{◌≡◌, [], ◌∷◌, ◌++◌, Some, None, codes, refl}
use Rattle.std.specs.Fmt.{digits}
use Rattle.rtapp_dialect.specs.Comments.{comments_blanked, unended_comment}
use Rattle.rtapp_dialect.specs.Filling.{values_filled, values_inserted}
use Rattle.rtapp_dialect.specs.Numbers.{keys_numbered, numbers_inserted}
use Rattle.rtapp_dialect.specs.Places.{place_at, origin_at}
use Rattle.rtapp_dialect.specs.Repeats.{repeats_in}
use Rattle.rtapp_dialect.specs.Strict.{strict_of, inserted_in}

-- a comment of two lines keeps its line feed, and one up to the end of its line leaves it
two_comments : comments_blanked (codes "[/* a\nb */1]// c\n") ≡ codes "[    \n    1]    \n"
two_comments = refl

-- no comment begins within a string, and a quote after a backslash does not end it
in_string : comments_blanked (codes "[\"\\\"/*\", 1/**/]") ≡ codes "[\"\\\"/*\", 1    ]"
in_string = refl

-- `/*/` is no whole comment, and `**/` ends one
stars : comments_blanked (codes "/*/ **/1") ≡ codes "       1"
stars = refl

-- a comment without an end begins at 3
no_end : unended_comment (codes "[1]/* ]") ≡ Some 3
no_end = refl

-- one up to the end of its line ends with the text
ends_with_text : unended_comment (codes "[1]//*") ≡ None
ends_with_text = refl

-- the last comma of a list and of an object, with white space after it
last_commas : values_filled (codes "{\"a\": [1, 2,], \n}") ≡ codes "{\"a\": [1, 2 ]  \n}"
last_commas = refl

-- a comma after a bracket or another comma stays, and so do commas in strings
other_commas : values_filled (codes "[[,], [1,,], \",]\"]") ≡ codes "[[,], [1,,], \",]\"]"
other_commas = refl

-- a key without a value gets null; an item or a value that is a string is no key
left_out : values_filled (codes "{\"run\": 1, \"suspend\" , \"a\": [\"b\", \"c\"], \"d\": \"e\", \"f\",}")
    ≡ codes "{\"run\": 1, \"suspend\" :null, \"a\": [\"b\", \"c\"], \"d\": \"e\", \"f\":null }"
left_out = refl

-- the value is inserted before the byte at 10
inserted : values_inserted (codes "{\"suspend\"}") ≡ record { at = 10; len = 5 } ∷ []
inserted = refl

-- a comment between a key and the comma
with_comment : strict_of (codes "{\"yield\" /* , */ , }") ≡ codes "{\"yield\"         :null  }"
with_comment = refl

-- the bytes before the insertion, of it, and after it
origin_before : origin_at (inserted_in (codes "{\"suspend\"}")) 9 ≡ 9
origin_before = refl

origin_within : origin_at (inserted_in (codes "{\"suspend\"}")) 14 ≡ 10
origin_within = refl

origin_after : origin_at (inserted_in (codes "{\"suspend\"}")) 15 ≡ 10
origin_after = refl

-- CR LF is the end of one line, and a character of two bytes (U+00E4) is one column
place : place_at (codes "{\r\n\"" ++ (195 ∷ 164 ∷ codes "\", ")) 7 ≡ record { line = 2; column = 4 }
place = refl

-- the end of a text has a place, on the line after its last LF
place_of_end : place_at (codes "[]\n") 3 ≡ record { line = 2; column = 1 }
place_of_end = refl

-- the second `run` is a repeat by its closing quote at 13, and the third by the one at 21; a key of
-- another object is none
repeated : repeats_in (codes "{\"run\":1,\"run\":2,\"run\":{\"run\":3}}")
    ≡ record { at = 13; earlier = 1 } ∷ record { at = 21; earlier = 2 } ∷ []
repeated = refl

-- of a list's objects each has its own keys, and the object around goes on with its own
own_keys : repeats_in (codes "{\"a\":[{\"a\":1},{\"a\":2}],\"b\":\"a\"}") ≡ []
own_keys = refl

-- keys with their numbers
with_numbers : keys_numbered (codes "{\"run\":1,\"run\":2,\"sleep\":3,\"run\":4}")
    ≡ codes "{\"run\":1,\"run1\":2,\"sleep\":3,\"run2\":4}"
unfolding digits
with_numbers = refl

-- where the numbers are
of_numbers : numbers_inserted (codes "{\"run\":1,\"run\":2}") ≡ record { at = 13; len = 1 } ∷ []
unfolding digits
of_numbers = refl
