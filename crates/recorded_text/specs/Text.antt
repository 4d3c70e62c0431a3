-- A whole recording: the switches of its lines, or its first bad line.
use Rattle.std.specs.Prelude.{◌≡◌, ℕ, ◌+◌, ◌==◌, Bool, true, false, if◌then◌else◌, List, [], ◌∷◌, Option, None, Some, Result, Ok, Err, map}
use Rattle.std.specs.Option.{option_map}
use Rattle.std.specs.List.{flat_map, position, onto_first}
use Rattle.recorded_text.specs.Line.{SwitchView, LineView, Other, Bad, Seen, line_at}
use Rattle.recorded_text.specs.declared.fault.RecordedFault.{RecordedFault}
use Rattle.recorded_text.specs.declared.fault.RecordedFault.TheVariants.{BadLine, Read, Endless, Memory}
use Rattle.recorded_text.specs.declared.step.Step.{Step}
use Rattle.recorded_text.specs.Steps.{step_view}

-- what stands between the LFs of a text, before the first and behind the last
unfoldable pub split_lines : List ℕ → List (List ℕ)
split_lines [] = [] ∷ []
split_lines (x ∷ xs) = if x == 10 then [] ∷ split_lines xs else onto_first x (split_lines xs)

-- the switch that a line is, or none
abbrev pub switch_of : LineView → List SwitchView
switch_of Other = []
switch_of Bad = []
switch_of (Seen s) = s ∷ []

abbrev pub is_bad : LineView → Bool
is_bad Other = false
is_bad Bad = true
is_bad (Seen s) = false

abbrev pub switches_in_line : List ℕ → List SwitchView
switches_in_line line = switch_of (line_at line)

abbrev pub is_bad_line : List ℕ → Bool
is_bad_line line = is_bad (line_at line)

-- the switches of a text, in the order of its lines
abbrev pub switches_in : List ℕ → List SwitchView
switches_in text = flat_map switches_in_line (split_lines text)

-- the number, from 1, of the first bad line
abbrev pub first_bad : List ℕ → Option ℕ
first_bad text = option_map (λ i. i + 1) (position is_bad_line (split_lines text))

-- these are the switches of the text, which has no bad line
pub record IsRead (text : List ℕ) (names : List (List ℕ)) (steps : List Step) : Type 0 where
  pub good : first_bad text ≡ None
  pub shown : map (step_view names) steps ≡ switches_in text

-- what a fault says of the text
abbrev pub IsRecordedFault : List ℕ → RecordedFault → Type 0
IsRecordedFault text (BadLine n) = first_bad text ≡ Some n
IsRecordedFault text Read = Unit {0}
IsRecordedFault text Endless = Unit {0}
IsRecordedFault text Memory = Unit {0}

abbrev pub is_read : RecordedFault → Bool
is_read (BadLine n) = false
is_read Read = true
is_read Endless = false
is_read Memory = false

-- a fault of the reader more exactly where reading failed
abbrev pub recorded_faults_after : {T : Type 0} → ℕ → Result T RecordedFault → ℕ
recorded_faults_after before (Ok x) = before
recorded_faults_after before (Err e) = if is_read e then before + 1 else before
