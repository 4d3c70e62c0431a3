-- A reader or a writer as calls meet it: what of it is known, and how many of its calls failed.
use Rattle.std.specs.Prelude.{ℕ, ◌≡◌, ◌+◌, List, Option}
use Rattle.std.specs.Io.KnownBytes.{Keeps}
use Rattle.past.specs.Past.{items_of_past}
use Rattle.counted_io.specs.declared.call.Call.{Call}
use Rattle.counted_io.specs.declared.counted.Counted.{Counted}

-- the reader or writer itself
abbrev pub inner_of : {T : Type 0} → Counted T → T
inner_of c = c.port.inner

-- its calls so far, and what each answered
abbrev pub port_calls : {T : Type 0} → Counted T → List Call
port_calls c = items_of_past c.port.calls

-- how many of its calls failed so far
abbrev pub faults_of : {T : Type 0} → Counted T → ℕ
faults_of c = c.faults

-- at one moment: the bytes that a reader has left, or that a writer holds, where it tells them; and
-- its faults so far
pub record Moment : Type 0 where
  pub bytes : Option (List ℕ)
  pub faults : ℕ

abbrev pub port_moment : {T : Type 0} → (T → Option (List ℕ)) → Counted T → Moment
port_moment known c = record { bytes = known (inner_of c); faults = faults_of c }

-- before a call, and after it
pub record Side : Type 0 where
  pub before : Moment
  pub after : Moment

abbrev pub side : {T : Type 0} → (T → Option (List ℕ)) → Counted T → Counted T → Side
side known old new = record { before = port_moment known old; after = port_moment known new }

-- no call failed
abbrev pub HasNoFault : Side → Type 0
HasNoFault s = s.after.faults ≡ s.before.faults

-- exactly one call failed
abbrev pub HasOneFault : Side → Type 0
HasOneFault s = s.after.faults ≡ s.before.faults + 1

-- no byte came or went, and no call failed
pub record IsUntouched (s : Side) : Type 0 where
  pub kept : Keeps s.before.bytes s.after.bytes
  pub no_fault : HasNoFault s
