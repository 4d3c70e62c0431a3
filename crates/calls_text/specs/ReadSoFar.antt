-- Entries and sections that stand at the front of a calls text, and the rest after them (own).
use Rattle.std.specs.Prelude.{◌≡◌, ℕ, ◌≤◌, ◌<◌, ◌-◌, Bool, false, ◌==◌, List, [], ◌∷◌, ◌++◌, map, length, slice_index, None}
use Rattle.std.specs.List.{flat_map, AllByRecursion}
use Rattle.calls_text.specs.declared.section.Entry.{Entry}
use Rattle.calls_text.specs.SectionView.{SectionView}
use Rattle.calls_text.specs.Spelling.{entry_line, section_lines, is_later, some_later, has_later, text_of}
use Rattle.calls_text.specs.OwnCalls.{IsNumbered, count_made_by}
use Rattle.calls_text.specs.Limits.{IsClient, IsEntry}
use Rattle.limits.specs.Limits.{unit, least_limit, max_history}

-- ---- entries

-- after a header that has no calls of the second form there is none
abbrev pub KnowsLater : Bool → Bool → Type 0
KnowsLater later has = later ≡ false → has ≡ false

-- an entry of a text has no reply
pub record IsEntryRead (e : Entry) : Type 0 where
  pub within : IsEntry e
  pub no_reply : e.reply ≡ None

-- the lines of these entries
abbrev pub entries_text : List Entry → List ℕ
entries_text entries = text_of (map entry_line entries)

-- the text is that of these entries, and then the rest
pub record SoFar (later : Bool) (text rest : List ℕ) (entries : List Entry) : Type 0 where
  pub parts : text ≡ entries_text entries ++ rest
  pub known : KnowsLater later (some_later entries)
  pub each : AllByRecursion IsEntryRead entries
  pub numbered : IsNumbered entries

-- how many calls each client made
abbrev pub Counts : List ℕ → List Entry → Type 0
Counts made entries =
    (client : ℕ) → IsClient client → slice_index made (client - 1) ≡ count_made_by client entries

-- the text does not begin with the line of an entry
abbrev pub LacksEntry : Bool → List ℕ → Type 0
LacksEntry later text =
    (e : Entry) (after : List ℕ) → IsEntryRead e → KnowsLater later (is_later e.call)
    → text ≡ entry_line e ++ 10 ∷ after → ⊥

-- ---- sections

-- a section of a text: within its limits, and its entries have no reply
pub record IsSectionRead (s : SectionView) : Type 0 where
  pub some : 0 < s.cpus
  pub most : s.cpus ≤ 64
  pub low : least_limit ≤ s.limit
  pub high : s.limit ≤ unit
  pub few : length s.entries ≤ max_history
  pub each : AllByRecursion IsEntryRead s.entries
  pub numbered : IsNumbered s.entries

-- the lines of these sections
abbrev pub sections_text : List SectionView → List ℕ
sections_text sections = text_of (flat_map section_lines sections)

-- there is a last section, and it may have one more entry
abbrev pub LastHasRoom : List SectionView → Type 0
LastHasRoom [] = ⊥
LastHasRoom (s ∷ []) = length s.entries < max_history
LastHasRoom (s ∷ t ∷ sections) = LastHasRoom (t ∷ sections)

-- the text is that of these sections, and then the rest, which does not go on with the last of them
pub record SectionsSoFar (later : Bool) (text rest : List ℕ) (sections : List SectionView)
    : Type 0 where
  pub parts : text ≡ sections_text sections ++ rest
  pub each : AllByRecursion IsSectionRead sections
  pub known : KnowsLater later (has_later sections)
  pub stops : LastHasRoom sections → LacksEntry later rest

-- the last section has as many calls as it may have
abbrev pub last_full : List SectionView → Bool
last_full [] = false
last_full (s ∷ []) = length s.entries == max_history
last_full (s ∷ t ∷ sections) = last_full (t ∷ sections)
