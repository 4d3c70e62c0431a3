-- The events of a script one behind the other, for the code's own contracts.
use Rattle.std.specs.Prelude.{ℕ, zero, suc, ◌≡◌, ◌+◌, ◌<◌, nat_le, if◌then◌else◌, List, [], ◌∷◌, ◌++◌, length, slice_index_or}
use Rattle.task_script.specs.declared.phase.Event.{Event}
use Rattle.task_script.specs.declared.phase.Event.TheVariants.{Run, Sleep, Timer, Wait}
use Rattle.task_script.specs.declared.steps.Deed.{Deed}
use Rattle.task_script.specs.declared.steps.Deed.TheVariants.{Run as ToRun, Sleep as ToSleep, Timer as ToTimer, Wait as ToWait}
use Rattle.task_script.specs.script.ScriptView.{PhaseView, ScriptView, IsScript}

-- an event, and how many laps its phase has where it is the last of them, else 0
pub record StepView : Type 0 where
  pub event : Event
  pub laps : ℕ

-- an event by what it does, and by its microseconds
abbrev pub event_in_step : Deed → ℕ → Event
event_in_step ToRun n = Run n
event_in_step ToSleep n = Sleep n
event_in_step ToTimer n = Timer n
event_in_step ToWait n = Wait

abbrev pub deed_of : Event → Deed
deed_of (Run n) = ToRun
deed_of (Sleep n) = ToSleep
deed_of (Timer n) = ToTimer
deed_of Wait = ToWait

abbrev pub micros_of : Event → ℕ
micros_of (Run n) = n
micros_of (Sleep n) = n
micros_of (Timer n) = n
micros_of Wait = 0

abbrev pub laps_at : PhaseView → ℕ → ℕ
laps_at q event = if nat_le (length q.events) (event + 1) then q.count else 0

abbrev pub step_in_phase : PhaseView → ℕ → StepView
step_in_phase q event =
    record { event = slice_index_or q.events event Wait; laps = laps_at q event }

-- of the first events of a phase, so many
abbrev pub steps_of_phase : PhaseView → ℕ → List StepView
steps_of_phase q zero = []
steps_of_phase q (suc n) = steps_of_phase q n ++ step_in_phase q n ∷ []

abbrev pub no_phase : PhaseView
no_phase = record { count = 0; events = [] }

abbrev pub all_of_phase : PhaseView → List StepView
all_of_phase q = steps_of_phase q (length q.events)

-- of the first phases, so many
abbrev pub steps_of_phases : List PhaseView → ℕ → List StepView
steps_of_phases phases zero = []
steps_of_phases phases (suc n) =
    steps_of_phases phases n ++ all_of_phase (slice_index_or phases n no_phase)

-- how many steps are before a phase
abbrev pub first_step_of : List PhaseView → ℕ → ℕ
first_step_of phases n = length (steps_of_phases phases n)

-- the steps of these phases, or none
abbrev pub AreSteps : List PhaseView → List StepView → Type 0
AreSteps phases steps = 0 < length steps → steps ≡ steps_of_phases phases (length phases)

abbrev pub IsSteps : ScriptView → List StepView → Type 0
IsSteps s steps = AreSteps s.phases steps

-- what every script keeps, its steps with it
pub record IsLaid (s : ScriptView) (laid : List StepView) : Type 0 where
  pub script : IsScript s
  pub steps : IsSteps s laid

-- phases, and their steps or none
pub record LaidView : Type 0 where
  pub phases : List PhaseView
  pub steps : List StepView
