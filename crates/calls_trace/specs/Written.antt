-- What a writer took of a text.
use Rattle.std.specs.Prelude.{ℕ, List}
use Rattle.std.specs.Io.KnownBytes.{Appends}
use Rattle.counted_io.specs.Sides.{Side, HasNoFault, HasOneFault, IsUntouched}
use Rattle.counted_io.specs.Faults.{TakesFront}
use Rattle.calls_trace.specs.declared.fault.TraceFault.{TraceFault}
use Rattle.calls_trace.specs.declared.fault.TraceFault.TheVariants.{Write, Memory}

-- the writer took a text, and nothing else
pub record IsWritten (writer : Side) (text : List ℕ) : Type 0 where
  pub taken : Appends writer.before.bytes writer.after.bytes text
  pub writes : HasNoFault writer

-- the writer failed: it took exactly so many bytes of a text, and not all
pub record IsCut (writer : Side) (text : List ℕ) (written : ℕ) : Type 0 where
  pub taken : TakesFront writer.before.bytes writer.after.bytes text written
  pub writes : HasOneFault writer

-- why a text was not written: the writer failed, or memory was refused before the first byte
abbrev pub IsUnwritten : Side → List ℕ → TraceFault → Type 0
IsUnwritten writer text (Write written) = IsCut writer text written
IsUnwritten writer text Memory = IsUntouched writer
