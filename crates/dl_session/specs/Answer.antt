-- The faults of a replay, as the program tells them; what a replay answers is calls_trace's.
use Rattle.std.specs.Prelude.{ℕ, List}
use Rattle.calls_text.specs.SectionView.{SectionView}
use Rattle.dl_session.specs.declared.fault.SessionFault.{SessionFault}
use Rattle.dl_session.specs.declared.fault.SessionFault.TheVariants.{Json, Scenario, Calls, Read, Write, Start, Full, Memory}
use Rattle.calls_trace.specs.Replay.{trace_of_sections}
use Rattle.calls_trace.specs.Answer.{Streams, IsRefused, IsUnread, IsCutOff, IsOutOfMemory}

-- a fault is what was met, where this text was to be written
abbrev pub IsSessionFaultBy : (List SectionView → List ℕ) → Streams → SessionFault → Type 0
IsSessionFaultBy text s (Calls n) = IsRefused s n
IsSessionFaultBy text s Read = IsUnread s
IsSessionFaultBy text s (Write written) = IsCutOff text s written
IsSessionFaultBy text s Memory = IsOutOfMemory s
IsSessionFaultBy text s (Json fault) = ⊥
IsSessionFaultBy text s (Scenario fault) = ⊥
IsSessionFaultBy text s Start = ⊥
IsSessionFaultBy text s Full = ⊥

abbrev pub IsSessionFault : Streams → SessionFault → Type 0
IsSessionFault = IsSessionFaultBy trace_of_sections
