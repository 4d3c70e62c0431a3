-- How faults are counted, and what a call leaves that ended in one.
use Rattle.std.specs.Prelude.{ℕ, ◌+◌, ◌<◌, Bool, if◌then◌else◌, List, length, take, Option, Result, Ok, Err, codes}
use Rattle.std.specs.Io.KnownBytes.{Appends, Consumes}
use Rattle.counted_io.specs.declared.fault.ReadFault.{ReadFault}
use Rattle.counted_io.specs.declared.fault.ReadFault.TheVariants.{Failed, Memory}

-- a fault more exactly where a call failed
abbrev pub one_more_unless : Bool → ℕ → ℕ
one_more_unless fine before = if fine then before else before + 1

-- a fault more exactly where reading failed: want of memory is no fault of the reader
abbrev pub faults_after : {T : Type 0} → ℕ → Result T ReadFault → ℕ
faults_after before (Ok x) = before
faults_after before (Err Failed) = before + 1
faults_after before (Err Memory) = before

-- some of the known bytes, from the front, are gone
abbrev pub ConsumesSome : Option (List ℕ) → Option (List ℕ) → Type 0
ConsumesSome before after = (bytes : List ℕ) × Consumes before after bytes

-- a writer took so many bytes, which are the front of the text, and not all of it
pub record TakesFront (before after : Option (List ℕ)) (text : List ℕ) (written : ℕ) : Type 0 where
  pub taken : Appends before after (take written text)
  pub some_left : written < length text

-- how a reader's fault prints (own)
abbrev pub read_fault_text : ReadFault → List ℕ
read_fault_text Failed = codes "read failed"
read_fault_text Memory = codes "out of memory"
