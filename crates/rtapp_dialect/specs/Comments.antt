-- Comments of rt-app's files. json-c 0.16, which reads the files for rt-app 1.0, takes `/* .. */`
-- and `//` up to the end of the line wherever white space may be (json_tokener.c, the states
-- `eatws`, `comment_start`, `comment`, `comment_eol` and `comment_end`). As there, the star of `/*`
-- is no part of `*/`. A comment ends at its first `*/` (own: json-c overlooks one that an odd
-- number of stars precedes). A comment without an end is a fault (own: json-c takes one after the
-- value).
use Rattle.std.specs.Prelude.{ℕ, ◌+◌, List, [], ◌∷◌, Option, Some, None, Bool, true, false, ◌≡◌, ◌==◌, ◌&&◌, ◌||◌, if◌then◌else◌, slice_index}
use Rattle.rtapp_dialect.specs.declared.comments.Within.{Within}
use Rattle.rtapp_dialect.specs.declared.comments.Within.TheVariants.{Outside, Text, Escape, Line, Opening, Block, Closing}
use Rattle.rtapp_dialect.specs.declared.fault.DialectFault.{DialectFault}
use Rattle.rtapp_dialect.specs.declared.fault.DialectFault.TheVariants.{Comment, Memory}

-- what the next byte is part of: c is this byte, and `next` the next one, or 0 at the end. A string
-- ends at a quote (34) that no backslash (92) precedes. `/` is 47, `*` is 42, LF is 10.
abbrev pub within_after : Within → ℕ → ℕ → Within
within_after Outside c next =
    if c == 34 then Text else
    if c == 47 && next == 47 then Line else
    if c == 47 && next == 42 then Opening else Outside
within_after Text c next = if c == 92 then Escape else if c == 34 then Outside else Text
within_after Escape c next = Text
within_after Line c next = if c == 10 then Outside else Line
within_after Opening c next = Block
within_after Block c next = if c == 42 && next == 47 then Closing else Block
within_after Closing c next = Outside

-- LF, or a space
abbrev pub blank : ℕ → ℕ
blank c = if c == 10 then 10 else 32

-- what is written for the byte c
abbrev pub byte_written : Within → ℕ → ℕ → ℕ
byte_written Outside c next = if c == 47 && (next == 47 || next == 42) then 32 else c
byte_written Text c next = c
byte_written Escape c next = c
byte_written Line c next = blank c
byte_written Opening c next = blank c
byte_written Block c next = blank c
byte_written Closing c next = blank c

abbrev pub blanked_from : Within → List ℕ → List ℕ
blanked_from within [] = []
blanked_from within (c ∷ cs) =
    byte_written within c (slice_index cs 0)
    ∷ blanked_from (within_after within c (slice_index cs 0)) cs

-- the text with its comments made into white space
abbrev pub comments_blanked : List ℕ → List ℕ
comments_blanked text = blanked_from Outside text

-- the place of the last comment that began here, at n, or at `before`
abbrev pub comment_place : Within → ℕ → ℕ → ℕ → ℕ
comment_place Outside c n before = if c == 47 then n else before
comment_place within c n before = before

abbrev pub is_unended : Within → Bool
is_unended Opening = true
is_unended Block = true
is_unended within = false

-- the same from the byte at n on, where the last comment began at `before`
abbrev pub comment_from : Within → ℕ → ℕ → List ℕ → Option ℕ
comment_from within before n [] = if is_unended within then Some before else None
comment_from within before n (c ∷ cs) =
    comment_from (within_after within c (slice_index cs 0)) (comment_place within c n before)
    (n + 1) cs

-- the place of the comment that has no end
abbrev pub unended_comment : List ℕ → Option ℕ
unended_comment text = comment_from Outside 0 0 text

-- the fault is the text's, or memory was refused
abbrev pub IsCommentFault : List ℕ → DialectFault → Type 0
IsCommentFault text (Comment at) = unended_comment text ≡ Some at
IsCommentFault text Memory = Unit {0}
