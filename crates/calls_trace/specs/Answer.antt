-- What a replay answers, and what it leaves.
use Rattle.std.specs.Prelude.{ℕ, ◌≡◌, List, IfSome}
use Rattle.std.specs.Io.KnownBytes.{Appends, Keeps}
use Rattle.calls_text.specs.SectionView.{SectionView}
use Rattle.calls_text.specs.Spelling.{spelling}
use Rattle.calls_text.specs.Limits.{AreRead}
use Rattle.calls_text.specs.BadLine.{IsBadLine}
use Rattle.counted_io.specs.Sides.{Side, HasNoFault, HasOneFault}
use Rattle.counted_io.specs.Faults.{TakesFront}
use Rattle.calls_trace.specs.declared.fault.ReplayFault.{ReplayFault}
use Rattle.calls_trace.specs.declared.fault.ReplayFault.TheVariants.{Calls, Read, Write, Memory}
use Rattle.run_options.specs.declared.replay_print.ReplayPrint.{ReplayPrint}
use Rattle.run_options.specs.declared.replay_print.ReplayPrint.TheVariants.{Trace, Replies, Events, Jobs, Summary, Chart}
use Rattle.reply_text.specs.Replies.{replies_of}
use Rattle.calls_trace.specs.Replay.{trace_of_sections}
use Rattle.calls_trace.specs.DomainEvents.{events_of_sections, jobs_of_sections, summary_of_sections}
use Rattle.calls_trace.specs.Charted.{chart_of_sections}

-- what a call of replay met: its reader and its writer, each before the call and after it
pub record Streams : Type 0 where
  pub reader : Side
  pub writer : Side

abbrev pub streams : Side → Side → Streams
streams reader writer = record { reader = reader; writer = writer }

abbrev pub NothingWritten : Streams → Type 0
NothingWritten s = Keeps s.writer.before.bytes s.writer.after.bytes

-- the text that was read, which is all that the reader had left
pub record IsInput (s : Streams) (text : List ℕ) : Type 0 where
  pub all : IfSome s.reader.before.bytes (λ bytes. text ≡ bytes)

-- the sections that the input spells
pub record AreSpelled (s : Streams) (sections : List SectionView) : Type 0 where
  pub text : List ℕ
  pub input : IsInput s text
  pub read : AreRead sections
  pub spelled : text ≡ spelling sections

-- the input spells sections, and this text of them was written, and nothing else
pub record IsAnsweredBy (text : List SectionView → List ℕ) (s : Streams) : Type 0 where
  pub sections : List SectionView
  pub input : AreSpelled s sections
  pub written : Appends s.writer.before.bytes s.writer.after.bytes (text sections)
  pub reads : HasNoFault s.reader
  pub writes : HasNoFault s.writer

-- the input spells sections, and their trace was written, and nothing else
abbrev pub IsAnswered : Streams → Type 0
IsAnswered = IsAnsweredBy trace_of_sections

-- the input has this first bad line, and nothing was written
pub record IsRefused (s : Streams) (n : ℕ) : Type 0 where
  pub text : List ℕ
  pub input : IsInput s text
  pub bad : IsBadLine text n
  pub unwritten : NothingWritten s
  pub reads : HasNoFault s.reader
  pub writes : HasNoFault s.writer

-- the reader failed, and nothing was written
pub record IsUnread (s : Streams) : Type 0 where
  pub unwritten : NothingWritten s
  pub reads : HasOneFault s.reader
  pub writes : HasNoFault s.writer

-- the writer failed: exactly so many bytes of this text of the sections were taken, and not all
pub record IsCutOff (text : List SectionView → List ℕ) (s : Streams) (written : ℕ) : Type 0 where
  pub sections : List SectionView
  pub input : AreSpelled s sections
  pub taken : TakesFront s.writer.before.bytes s.writer.after.bytes (text sections) written
  pub reads : HasNoFault s.reader
  pub writes : HasOneFault s.writer

-- memory was refused, and nothing was written
pub record IsOutOfMemory (s : Streams) : Type 0 where
  pub unwritten : NothingWritten s
  pub reads : HasNoFault s.reader
  pub writes : HasNoFault s.writer

-- a fault is what was met, where this text was to be written
abbrev pub IsReplayFaultBy : (List SectionView → List ℕ) → Streams → ReplayFault → Type 0
IsReplayFaultBy text s (Calls n) = IsRefused s n
IsReplayFaultBy text s Read = IsUnread s
IsReplayFaultBy text s (Write written) = IsCutOff text s written
IsReplayFaultBy text s Memory = IsOutOfMemory s

abbrev pub IsReplayFault : Streams → ReplayFault → Type 0
IsReplayFault = IsReplayFaultBy trace_of_sections

-- ---- what is asked for

-- what is written of sections: the trace of their run, their calls with the replies, the trace with
-- what happens, the jobs or the figures of what happens, or a part of their run as a chart
abbrev pub replayed_text : ReplayPrint → List SectionView → List ℕ
replayed_text Trace = trace_of_sections
replayed_text Replies = replies_of
replayed_text Events = events_of_sections
replayed_text Jobs = jobs_of_sections
replayed_text Summary = summary_of_sections
replayed_text (Chart span) = chart_of_sections span
