-- What a replay of a text leaves at its writer.
use Rattle.std.specs.Prelude.{ℕ, ◌≡◌, List}
use Rattle.calls_text.specs.SectionView.{SectionView}
use Rattle.calls_text.specs.Spelling.{spelling}
use Rattle.calls_text.specs.Limits.{AreRead}
use Rattle.calls_text.specs.BadLine.{IsBadLine}
use Rattle.counted_io.specs.Sides.{Side, IsUntouched}
use Rattle.calls_trace.specs.Written.{IsWritten, IsCut}
use Rattle.calls_trace.specs.declared.fault.ReplayFault.{ReplayFault}
use Rattle.calls_trace.specs.declared.fault.ReplayFault.TheVariants.{Calls, Read, Write, Memory}

-- the text spells sections
pub record SpellsSections (text : List ℕ) : Type 0 where
  pub sections : List SectionView
  pub read : AreRead sections
  pub spelled : text ≡ spelling sections

-- the text spells sections, and this text of them was written
pub record IsReplayed (text : List ℕ) (wanted : List SectionView → List ℕ) (writer : Side)
    : Type 0 where
  pub spells : SpellsSections text
  pub written : IsWritten writer (wanted spells.sections)

-- the text spells sections, and the writer failed in this text of them
pub record IsReplayCut (text : List ℕ) (wanted : List SectionView → List ℕ) (writer : Side)
    (written : ℕ) : Type 0 where
  pub spells : SpellsSections text
  pub cut : IsCut writer (wanted spells.sections) written

-- why it was not written: the text has this bad line, the writer failed, or memory was refused
-- before the first byte
abbrev pub IsUnreplayed : List ℕ → (List SectionView → List ℕ) → Side → ReplayFault → Type 0
IsUnreplayed text wanted writer (Calls n) = IsBadLine text n × IsUntouched writer
IsUnreplayed text wanted writer Read = ⊥
IsUnreplayed text wanted writer (Write written) = IsReplayCut text wanted writer written
IsUnreplayed text wanted writer Memory = IsUntouched writer
