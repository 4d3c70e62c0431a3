-- The calls that a reader numbers.
use Rattle.std.specs.Prelude.{ℕ, List, [], ◌∷◌, ◌++◌, Option, Some, None, Result, Ok, Err}
use Rattle.calls_text.specs.declared.fault.CallsFault.{CallsFault}
use Rattle.calls_text.specs.declared.calls_reader.Numbered.{Numbered}
use Rattle.calls_text.specs.declared.section.Entry.{Entry}
use Rattle.calls_text.specs.SectionView.{SectionView}
use Rattle.calls_text.specs.Reader.{ReaderView, IsAfter, IsWithin, section_with_entries}
use Rattle.calls_text.specs.KeptCall.{call_kept}

-- the entry of a call that was read
abbrev pub numbered_entry : Numbered → Entry
numbered_entry n = record { client = n.client; seq = n.seq; call = call_kept n.kept; reply = None }

-- within a section: its next entry, or it is read to its end; where memory ran out, all is as
-- before
abbrev pub IsNextNumbered : List ℕ → List SectionView → SectionView → ReaderView
    → Result (Option Numbered) CallsFault → Type 0
IsNextNumbered text before s r (Ok (Some n)) =
    IsWithin text before (section_with_entries s (numbered_entry n ∷ [])) r
IsNextNumbered text before s r (Ok None) = IsAfter text (before ++ s ∷ []) r
IsNextNumbered text before s r (Err e) = IsWithin text before s r
