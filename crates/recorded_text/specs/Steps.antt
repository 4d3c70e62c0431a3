-- Switches whose tasks are named by number.
use Rattle.std.specs.Prelude.{ℕ, ◌<◌, ◌^◌, List, length, slice_get, All, IfSome}
use Rattle.std.specs.Option.{option_and_then}
use Rattle.recorded_text.specs.Line.{SwitchView}
use Rattle.recorded_text.specs.declared.step.Step.{Step}

-- the switch, with the name in place of its number
abbrev pub step_view : List (List ℕ) → Step → SwitchView
step_view names s =
    record { time = s.time; cpu = s.cpu; next = option_and_then (slice_get names) s.task }

-- its number has a name, and its time is below 2^61 (seconds are below 2^40)
abbrev pub IsNamed : List (List ℕ) → Step → Type 0
IsNamed names s = IfSome s.task (λ i. i < length names) × (s.time < 2 ^ 61)

abbrev pub AreNamed : List (List ℕ) → List Step → Type 0
AreNamed names steps = All (IsNamed names) steps
