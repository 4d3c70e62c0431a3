-- Where a reader of a calls text stands, and what it reads next (own).
use Rattle.std.specs.Prelude.{◌≡◌, ℕ, ◌+◌, ◌≤◌, ◌<◌, Bool, ◌||◌, ◌==◌, List, [], ◌∷◌, ◌++◌, length, Option, Some, None, Result, Ok, Err}
use Rattle.std.specs.List.{flat_map}
use Rattle.calls_text.specs.declared.fault.CallsFault.{CallsFault}
use Rattle.calls_text.specs.declared.section.Entry.{Entry}
use Rattle.calls_text.specs.SectionView.{SectionView}
use Rattle.calls_text.specs.Spelling.{domain_line, section_lines, some_later, has_later, header_line, spelling}
use Rattle.calls_text.specs.Limits.{AreRead}
use Rattle.calls_text.specs.BadLine.{IsReadFault}
use Rattle.calls_text.specs.ReadSoFar.{Counts, SoFar, SectionsSoFar, last_full}
use Rattle.limits.specs.Limits.{unit, least_limit, max_history}

-- what a contract sees of a reader
pub record ReaderView : Type 0 where
  -- the text after what was read
  pub rest : List ℕ
  -- whether the header is that of calls of the second form, and whether one was read
  pub later : Bool
  pub found_later : Bool
  -- how many sections were read, and their lines
  pub sections : ℕ
  pub lines : ℕ
  -- the calls of the last of them, and how many of them each client made
  pub calls : ℕ
  pub made : List ℕ

-- how many bytes of the text are left
abbrev pub bytes_left : ReaderView → ℕ
bytes_left r = length r.rest

-- a section of which no entry is read
abbrev pub empty_section : ℕ → ℕ → SectionView
empty_section cpus limit = record { cpus = cpus; limit = limit; entries = [] }

-- a section with more entries after its own
abbrev pub section_with_entries : SectionView → List Entry → SectionView
section_with_entries s entries = record s { entries = s.entries ++ entries }

-- The reader has read these sections of the text, the last of them to its end: the text is the
-- header's line, the lines of these sections, and then the rest, which does not go on with the last
-- of them. What the reader counts of them is right.
pub record IsAfter (text : List ℕ) (sections : List SectionView) (r : ReaderView) : Type 0 where
  -- the text after the header
  pub body : List ℕ
  pub header : text ≡ header_line r.later ++ (10 ∷ body)
  pub so_far : SectionsSoFar r.later body r.rest sections
  pub found : r.found_later ≡ has_later sections
  pub few : length sections ≤ 8
  pub count : r.sections ≡ length sections
  pub lines : r.lines ≡ length (flat_map section_lines sections)
  pub full : (r.calls == max_history) ≡ last_full sections

-- The reader has read these sections to their end, and then the domain and the entries of this one,
-- after which more may follow.
pub record IsWithin (text : List ℕ) (before : List SectionView) (s : SectionView) (r : ReaderView)
    : Type 0 where
  -- the text after the header, that from the domain's line on, and that after this line
  pub body : List ℕ
  pub from : List ℕ
  pub after : List ℕ
  pub header : text ≡ header_line r.later ++ (10 ∷ body)
  pub so_far : SectionsSoFar r.later body from before
  pub domain : from ≡ domain_line s ++ 10 ∷ after
  pub some : 0 < s.cpus
  pub most : s.cpus ≤ 64
  pub low : least_limit ≤ s.limit
  pub high : s.limit ≤ unit
  pub entries : SoFar r.later after r.rest s.entries
  pub few : length before < 8
  pub short : length s.entries ≤ max_history
  pub found : r.found_later ≡ (has_later before || some_later s.entries)
  pub count : r.sections ≡ length before + 1
  pub lines : r.lines ≡ length (flat_map section_lines before) + (1 + length s.entries)
  pub calls : r.calls ≡ length s.entries
  pub counts : Counts r.made s.entries
  pub long : length r.made ≡ 64

-- after sections of a text: a section begins, or they are all of the text, or it has a bad line
abbrev pub IsNextDomain : List ℕ → List SectionView → ReaderView
    → Result (Option (ℕ × ℕ)) CallsFault → Type 0
IsNextDomain text done r (Ok (Some d)) = IsWithin text done (empty_section d.0 d.1) r
IsNextDomain text done r (Ok None) = AreRead done × (text ≡ spelling done)
IsNextDomain text done r (Err e) = IsReadFault text e × IsAfter text done r

-- within a section: its next entry, or it is read to its end; where memory ran out, all is as
-- before
abbrev pub IsNextEntry : List ℕ → List SectionView → SectionView → ReaderView
    → Result (Option Entry) CallsFault → Type 0
IsNextEntry text before s r (Ok (Some e)) = IsWithin text before (section_with_entries s (e ∷ [])) r
IsNextEntry text before s r (Ok None) = IsAfter text (before ++ s ∷ []) r
IsNextEntry text before s r (Err e) = IsWithin text before s r

-- within a section: these are all that follow in it
abbrev pub AreOthers : List ℕ → List SectionView → SectionView → ReaderView → List Entry → Type 0
AreOthers text before s r entries = IsAfter text (before ++ section_with_entries s entries ∷ []) r
