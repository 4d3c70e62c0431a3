-- A text was written of which something is said.
use Rattle.std.proofs.Common.{ℕ, List, Result, Ok, Err}
use Rattle.std.specs.Prelude.{OnOk, IfErr}
use Rattle.counted_io.specs.Sides.{Side}
use Rattle.calls_trace.specs.declared.fault.TraceFault.{TraceFault}
use Rattle.calls_trace.specs.declared.fault.TraceFault.TheVariants.{Write, Memory}
use Rattle.calls_trace.specs.Written.{IsWritten, IsUnwritten}
use Rattle.dl_session.specs.private.Printing.{IsWrittenAs, IsUnwrittenAs}

pub written_as : {T E : Type 0} (r : Result T E) (is : List ℕ → Type 0) (w : Side) (text : List ℕ) → is text → OnOk r (IsWritten w text) → OnOk r (IsWrittenAs is w)
written_as (Ok x) is w text said written = record { text = text; said = said; written = written }
written_as (Err e) is w text said written = tt

pub unwritten_as : {T : Type 0} (r : Result T TraceFault) (is : List ℕ → Type 0) (w : Side) (text : List ℕ) → is text → IfErr r (IsUnwritten w text) → IfErr r (IsUnwrittenAs is w)
unwritten_as (Ok x) is w text said unwritten = tt
unwritten_as (Err (Write n)) is w text said unwritten = record { text = text; said = said; cut = unwritten }
unwritten_as (Err Memory) is w text said unwritten = unwritten

-- and so is something else
pub written_also : {T E : Type 0} (r : Result T E) (was is : List ℕ → Type 0) (w : Side) → ((text : List ℕ) → was text → is text) → OnOk r (IsWrittenAs was w) → OnOk r (IsWrittenAs is w)
written_also (Ok x) was is w f written = record { text = written.text; said = f written.text written.said; written = written.written }
written_also (Err e) was is w f written = tt

pub unwritten_also : {T : Type 0} (r : Result T TraceFault) (was is : List ℕ → Type 0) (w : Side) → ((text : List ℕ) → was text → is text) → IfErr r (IsUnwrittenAs was w) → IfErr r (IsUnwrittenAs is w)
unwritten_also (Ok x) was is w f unwritten = tt
unwritten_also (Err (Write n)) was is w f unwritten = record { text = unwritten.text; said = f unwritten.text unwritten.said; cut = unwritten.cut }
unwritten_also (Err Memory) was is w f unwritten = unwritten
