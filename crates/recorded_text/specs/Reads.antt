-- The reads that a recording takes (own).
use Rattle.std.specs.Prelude.{◌≡◌, ◌^◌, ◌<◌, ◌⊎◌, Bool, true, false, List, length, All, Some, None, Result, Ok, Err}
use Rattle.counted_io.specs.declared.call.Call.{Call}
use Rattle.counted_io.specs.Calls.{Moves, EndsIn}
use Rattle.recorded_text.specs.declared.fault.RecordedFault.{RecordedFault}
use Rattle.recorded_text.specs.declared.fault.RecordedFault.TheVariants.{BadLine, Read, Endless, Memory}

-- they met the end of the text, or were broken off behind some bytes of it
abbrev pub MayBreakOff : List Call → Type 0
MayBreakOff calls = EndsIn calls (Some 0) ⊎ (All Moves calls × (0 < length calls))

-- up to the one that tells the end, or that fails, or 2^32 that did neither; a bad line and want of
-- memory break them off
abbrev pub AreReadsOf : {T : Type 0} → List Call → Result T RecordedFault → Type 0
AreReadsOf calls (Ok steps) = EndsIn calls (Some 0)
AreReadsOf calls (Err (BadLine n)) = MayBreakOff calls
AreReadsOf calls (Err Read) = EndsIn calls None
AreReadsOf calls (Err Endless) = All Moves calls × (length calls ≡ 2 ^ 32)
AreReadsOf calls (Err Memory) = MayBreakOff calls

-- a fault of too many reads
abbrev pub is_endless : RecordedFault → Bool
is_endless (BadLine n) = false
is_endless Read = false
is_endless Endless = true
is_endless Memory = false
