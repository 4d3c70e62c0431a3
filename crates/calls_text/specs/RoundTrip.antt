-- What a text that was written is read as.
use Rattle.std.specs.Prelude.{◌≡◌, ℕ, List, map, None}
use Rattle.calls_text.specs.declared.section.Entry.{Entry}
use Rattle.calls_text.specs.SectionView.{SectionView}
use Rattle.calls_text.specs.Spelling.{spelling}
use Rattle.calls_text.specs.Limits.{AreRead}

-- the same call without its reply, which no text has
abbrev pub without_reply : Entry → Entry
without_reply e = record e { reply = None }

-- the same calls without their replies
abbrev pub without_replies : SectionView → SectionView
without_replies s = record s { entries = map without_reply s.entries }

-- the text is accepted, and is that of these sections and of no others
pub record IsReadAs (text : List ℕ) (sections : List SectionView) : Type 0 where
  pub accepted : AreRead sections
  pub spelled : text ≡ spelling sections
  pub alone : (others : List SectionView) → AreRead others → text ≡ spelling others
      → others ≡ sections
