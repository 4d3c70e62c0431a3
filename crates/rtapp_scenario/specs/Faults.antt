-- The faults of a scenario, and the first of several tests that fails.
use Rattle.std.specs.Prelude.{ℕ, Bool, List, [], ◌∷◌, ◌++◌, Option, Some, None, if◌then◌else◌}

-- a fault; `unsupported` and `value` name the key to mend (own)
pub data Fault : Type 0 where
  no_tasks : Fault
  duration : Fault
  unsupported : List ℕ → Fault
  value : List ℕ → Fault
  name : Fault
  policy : Fault
  too_many : Fault
  idle : Fault

-- a test, and the fault where it fails
abbrev pub unless : Bool → Fault → Option Fault
unless passes fault = if passes then None else Some fault

-- the first that is there
abbrev pub first : {X : Type 0} → List (Option X) → Option X
first [] = None
first (None ∷ others) = first others
first (Some x ∷ others) = Some x

-- the first fault of members in text order, where the test of each may look at those before it
abbrev pub first_fault_in : {X : Type 0} → (List X → X → Option Fault) → List X → List X
    → Option Fault
first_fault_in test before [] = None
first_fault_in test before (x ∷ xs) =
    first (test before x ∷ first_fault_in test (before ++ x ∷ []) xs ∷ [])
