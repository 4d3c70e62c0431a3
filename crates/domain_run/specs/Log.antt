-- A log of what happens to the tasks of a domain (own). One that wants it appends it to what it
-- has; a silent one keeps nothing.
use Rattle.std.specs.Prelude.{ℕ, ◌≡◌, ◌+◌, ◌≤◌, Bool, IsTrue, if◌then◌else◌, List, [], ◌++◌, length}
use Rattle.domain_run.specs.declared.happened.Happened.{Happened}

pub record LogView : Type 0 where
  -- whether it keeps what it logs
  pub wanted : Bool
  -- what it has logged, in this order
  pub happened : List Happened
  -- how much more it takes without memory
  pub room : ℕ

-- what it keeps of what it logs
abbrev pub if_wanted : LogView → List Happened → List Happened
if_wanted log logged = if log.wanted then logged else []

-- a log that has logged this, and nothing else; it gives no room back
pub record HasLogged (before : LogView) (logged : List Happened) (after : LogView) : Type 0 where
  pub wanted : after.wanted ≡ before.wanted
  pub happened : after.happened ≡ before.happened ++ if_wanted before logged
  pub room : before.room + length before.happened ≤ after.room + length after.happened

-- room for so much, where it keeps it
abbrev pub LogHasRoom : ℕ → LogView → Type 0
LogHasRoom count log = IsTrue log.wanted → count ≤ log.room

-- for the end of a tick: three for each of 64 CPUs
abbrev pub HasRoomToEnd : LogView → Type 0
HasRoomToEnd log = LogHasRoom 192 log
