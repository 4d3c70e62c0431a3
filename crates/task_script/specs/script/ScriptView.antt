-- What a contract sees of a script.
use Rattle.std.specs.Prelude.{ℕ, ◌≤◌, ◌<◌, ◌^◌, ◌*◌, List, length, All, sum_by, Option, IfSome, MatchOption}
use Rattle.task_script.specs.declared.phase.Event.{Event}
use Rattle.task_script.specs.declared.phase.Event.TheVariants.{Run, Sleep, Timer, Wait}
use Rattle.limits.specs.Limits.{max_script_number}

-- the events of a phase, so many times over
pub record PhaseView : Type 0 where
  pub count : ℕ
  pub events : List Event

-- the phases in order, so many rounds of them; without a number they go on for ever
pub record ScriptView : Type 0 where
  pub rounds : Option ℕ
  pub phases : List PhaseView

abbrev pub script_of : Option ℕ → List PhaseView → ScriptView
script_of rounds phases = record { rounds = rounds; phases = phases }

-- a script, the place of its next event, and the reference of its timer
pub record CursorView : Type 0 where
  pub script : ScriptView
  pub place : ℕ
  pub reference : ℕ

-- limits (own): times of 1 to 10^9 us, counts of 1 to 10^9, 1 to 64 events in a phase, 1 to 64
-- phases
abbrev pub IsEvent : Event → Type 0
IsEvent (Run n) = (0 < n) × (n ≤ max_script_number)
IsEvent (Sleep n) = (0 < n) × (n ≤ max_script_number)
IsEvent (Timer n) = (0 < n) × (n ≤ max_script_number)
IsEvent Wait = Unit {0}

pub record IsPhase (p : PhaseView) : Type 0 where
  pub some : 0 < p.count
  pub most : p.count ≤ max_script_number
  pub some_events : 0 < length p.events
  pub most_events : length p.events ≤ 64
  pub events : All IsEvent p.events

pub record IsScript (s : ScriptView) : Type 0 where
  pub rounds : IfSome s.rounds (λ n. (0 < n) × (n ≤ max_script_number))
  pub some_phases : 0 < length s.phases
  pub most_phases : length s.phases ≤ 64
  pub phases : All IsPhase s.phases

-- how many places one phase, and one round, take
abbrev pub phase_len : PhaseView → ℕ
phase_len p = p.count * length p.events

abbrev pub round_len : ScriptView → ℕ
round_len s = sum_by phase_len s.phases

-- a place within the rounds; without end within the first
abbrev pub IsPlace : ScriptView → ℕ → Type 0
IsPlace s place = MatchOption s.rounds (place < round_len s) (λ n. place ≤ n * round_len s)

-- what every cursor keeps
pub record IsCursor (c : CursorView) : Type 0 where
  pub within : IsPlace c.script c.place
  pub short : c.place ≤ 2 ^ 80
