-- What a comparison of two texts answers, and what it leaves (own).
use Rattle.std.specs.Prelude.{◌≡◌, ℕ, List, [], Some, None, IfSome}
use Rattle.std.specs.Io.KnownBytes.{Appends}
use Rattle.recorded_text.specs.declared.step.Step.{Step}
use Rattle.recorded_text.specs.Text.{first_bad, switches_in}
use Rattle.counted_io.specs.Sides.{Side, HasNoFault, HasOneFault, IsUntouched}
use Rattle.counted_io.specs.Faults.{TakesFront}
use Rattle.compare_report.specs.declared.fault.CompareFault.{CompareFault}
use Rattle.compare_report.specs.declared.fault.CompareFault.TheVariants.{BadLine, NoSwitch, Read, Endless, Write, Memory}
use Rattle.compare_report.specs.declared.fault.Input.{Input}
use Rattle.compare_report.specs.declared.fault.Input.TheVariants.{Model, Recorded}
use Rattle.compare_report.specs.declared.options.CompareOptions.{CompareOptions}
use Rattle.compare_report.specs.declared.tally.Tally.{Tally}
use Rattle.compare_report.specs.Reading.{AreReadFrom, Pair, ArePair}
use Rattle.compare_report.specs.Report.{IsReport}

-- what a comparison met: the readers of both texts and the writer, each before the call and after
-- it
pub record CompareStreams : Type 0 where
  pub model : Side
  pub recorded : Side
  pub writer : Side

abbrev pub compare_streams : Side → Side → Side → CompareStreams
compare_streams model recorded writer =
    record { model = model; recorded = recorded; writer = writer }

-- the report of the two texts that were read, and its total
pub record IsReportOf (asked : CompareOptions) (s : CompareStreams) (text : List ℕ) (tally : Tally)
    : Type 0 where
  pub pair : Pair
  pub read : ArePair s.model.before.bytes s.recorded.before.bytes pair
  pub report : IsReport asked pair text tally
  pub model : HasNoFault s.model
  pub recorded : HasNoFault s.recorded

-- the report was written, and nothing else; its total is this one
pub record IsComparisonWritten (asked : CompareOptions) (s : CompareStreams) (tally : Tally)
    : Type 0 where
  pub text : List ℕ
  pub report : IsReportOf asked s text tally
  pub written : Appends s.writer.before.bytes s.writer.after.bytes text
  pub writes : HasNoFault s.writer

-- ---- faults

-- a text was read to its end, and is one of switches
pub record IsWell (s : Side) : Type 0 where
  pub names : List (List ℕ)
  pub steps : List Step
  pub read : AreReadFrom s.before.bytes [] names steps
  pub no_fault : HasNoFault s

-- the text has this first bad line
pub record HasBadLine (n : ℕ) (s : Side) : Type 0 where
  pub bad : IfSome s.before.bytes (λ text. first_bad text ≡ Some n)
  pub no_fault : HasNoFault s

-- the text has no bad line, and no switch
pub record HasNoSwitch (s : Side) : Type 0 where
  pub good : IfSome s.before.bytes (λ text. first_bad text ≡ None)
  pub none : IfSome s.before.bytes (λ text. switches_in text ≡ [])
  pub no_fault : HasNoFault s

abbrev pub reader_of : Input → CompareStreams → Side
reader_of Model s = s.model
reader_of Recorded s = s.recorded

-- the model's text is read first, and the recorded one only then
abbrev pub IsInOrder : Input → CompareStreams → Type 0
IsInOrder Model s = IsUntouched s.recorded
IsInOrder Recorded s = IsWell s.model

-- reading stopped at a text, of which this holds; nothing was written
pub record StopsAt (input : Input) (holds : Side → Type 0) (s : CompareStreams) : Type 0 where
  pub here : holds (reader_of input s)
  pub order : IsInOrder input s
  pub unwritten : IsUntouched s.writer

-- the writer failed: exactly so many bytes of the report were taken, and not all
pub record IsReportCutOff (asked : CompareOptions) (s : CompareStreams) (written : ℕ) : Type 0 where
  pub text : List ℕ
  pub tally : Tally
  pub report : IsReportOf asked s text tally
  pub taken : TakesFront s.writer.before.bytes s.writer.after.bytes text written
  pub writes : HasOneFault s.writer

-- memory was refused, and nothing was written
pub record IsCompareOutOfMemory (s : CompareStreams) : Type 0 where
  pub model : HasNoFault s.model
  pub recorded : HasNoFault s.recorded
  pub unwritten : IsUntouched s.writer

-- a fault is what was met
abbrev pub IsCompareFault : CompareOptions → CompareStreams → CompareFault → Type 0
IsCompareFault asked s (BadLine input n) = StopsAt input (HasBadLine n) s
IsCompareFault asked s (NoSwitch input) = StopsAt input HasNoSwitch s
IsCompareFault asked s (Read input) = StopsAt input HasOneFault s
IsCompareFault asked s (Endless input) = StopsAt input HasNoFault s
IsCompareFault asked s (Write written) = IsReportCutOff asked s written
IsCompareFault asked s Memory = IsCompareOutOfMemory s
