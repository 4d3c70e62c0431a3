-- How far a cursor is in its script, for the code's own contracts.
use Rattle.std.specs.Prelude.{ℕ, zero, suc, ◌≡◌, ◌+◌, ◌*◌, ◌<◌, ◌≤◌, Bool, false, nat_le, if◌then◌else◌, List, [], ◌∷◌, length, slice_get, Option, Some, None, IfSome}
use Rattle.task_script.specs.declared.progress.Progress.{Progress}
use Rattle.task_script.specs.declared.phase.Event.{Event}
use Rattle.task_script.specs.declared.phase.Event.TheVariants.{Run, Sleep, Timer, Wait}
use Rattle.task_script.specs.script.ScriptView.{PhaseView, ScriptView, CursorView, IsScript, IsEvent, IsCursor, phase_len, round_len}
use Rattle.task_script.specs.script.Unrolled.{event_at}
use Rattle.task_script.specs.private.Steps.{laps_at, first_step_of}
use Rattle.task_script.specs.script.Segments.{first_place, kept_cursor, at_next_event, is_timer_over}

-- how many events of a round are behind: those of so many phases, and in the next phase those of so
-- many laps, and so many of the lap after them
abbrev pub events_behind : List PhaseView → ℕ → ℕ → ℕ → ℕ
events_behind [] phase lap event = 0
events_behind (p ∷ ps) zero lap event = lap * length p.events + event
events_behind (p ∷ ps) (suc phase) lap event = phase_len p + events_behind ps phase lap event

-- the place to which the counters come
abbrev pub progress_place : ScriptView → Progress → ℕ
progress_place s p = p.round * round_len s + events_behind s.phases p.phase p.lap p.event

-- the rounds are all behind; without a number they never are
abbrev pub is_last_round : Option ℕ → ℕ → Bool
is_last_round None round = false
is_last_round (Some n) round = nat_le n round

-- behind a round; without end each is like the first
abbrev pub next_round : Option ℕ → ℕ → ℕ
next_round None round = round
next_round (Some n) round = round + 1

-- the lap and the event are of this phase
pub record IsInPhase (q : PhaseView) (p : Progress) : Type 0 where
  pub lap : p.lap < q.count
  pub event : p.event < length q.events

-- what the counters of a cursor keep
pub record IsProgress (s : ScriptView) (p : Progress) : Type 0 where
  pub phase : p.phase < length s.phases
  pub first : p.first ≡ first_step_of s.phases p.phase
  pub there : (q : PhaseView) → slice_get s.phases p.phase ≡ Some q → IsInPhase q p
  pub kept : (reference : ℕ) → IsCursor
      (record { script = s; place = progress_place s p; reference = reference })

-- what a cursor keeps: its counters, and the event to which they come
pub record IsComing (s : ScriptView) (p : Progress) (coming : Option Event) : Type 0 where
  pub script : IsScript s
  pub stands : IsProgress s p
  pub is : coming ≡ event_at s (progress_place s p)
  pub event : IfSome coming IsEvent

-- the event of the script to which the counters come
abbrev pub IsEventThere : ScriptView → Progress → Event → Type 0
IsEventThere s p event =
    (q : PhaseView) → slice_get s.phases p.phase ≡ Some q → slice_get q.events p.event ≡ Some event

-- the laps of the phase, at the last of its events, else 0
abbrev pub AreLapsThere : ScriptView → Progress → ℕ → Type 0
AreLapsThere s p laps =
    (q : PhaseView) → slice_get s.phases p.phase ≡ Some q → laps ≡ laps_at q p.event

-- the event is the last of its lap, in a phase of so many laps
pub record IsLastOfLap (s : ScriptView) (p : Progress) (laps : ℕ) : Type 0 where
  pub last : (q : PhaseView) → slice_get s.phases p.phase ≡ Some q → length q.events ≤ p.event + 1
  pub count : (q : PhaseView) → slice_get s.phases p.phase ≡ Some q → q.count ≡ laps

-- the counters behind the event where they stood
pub record IsNextProgress (s : ScriptView) (p after : Progress) : Type 0 where
  pub stands : IsProgress s after
  pub place : progress_place s after ≡ first_place s.rounds (round_len s) (progress_place s p + 1)

-- a cursor where it stands, with another reference
abbrev pub at_reference : CursorView → ℕ → CursorView
at_reference c reference = record { script = c.script; place = c.place; reference = reference }

-- where a cursor gives an event: behind a timer that is late
abbrev pub timer_passed : CursorView → ℕ → CursorView
timer_passed c time =
    if is_timer_over (event_at c.script c.place) c.reference time
    then kept_cursor (at_next_event c time) else c

-- the work of an event of running
abbrev pub work_at : Option Event → Option ℕ
work_at (Some (Run n)) = Some n
work_at (Some (Sleep n)) = None
work_at (Some (Timer n)) = None
work_at (Some Wait) = None
work_at None = None

-- so many rounds are left, behind the one where the counters stand
abbrev pub HasRoundsLeft : ℕ → ScriptView → Progress → Type 0
HasRoundsLeft rounds s p =
    IfSome s.rounds (λ n. progress_place s p + rounds * round_len s ≤ n * round_len s)
