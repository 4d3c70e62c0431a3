-- What a task does next, by the events of its script (own; rt-app's phases and loops).
use Rattle.std.specs.Prelude.{ℕ, ℤ, pos, negsuc, ◌<◌, ◌≤◌, ◌^◌, ◌≡◌, ◌+◌, ◌%◌, Bool, false, nat_le, if◌then◌else◌, List, [], ◌∷◌, Option, Some, None}
use Rattle.task_script.specs.declared.phase.Event.{Event}
use Rattle.task_script.specs.declared.phase.Event.TheVariants.{Run, Sleep, Timer, Wait}
use Rattle.task_script.specs.declared.script.Segment.{Segment}
use Rattle.task_script.specs.declared.script.Segment.TheVariants.{Run as RunFor, Until, Wait as WaitFor, End}
use Rattle.task_script.specs.script.ScriptView.{ScriptView, CursorView, round_len}
use Rattle.task_script.specs.script.Unrolled.{event_at}
use Rattle.limits.specs.Limits.{max_script_number}

-- a number of loops as it is written: -1 for ever, or 1 to 10^9
abbrev pub rounds_of : ℤ → Option ℕ
rounds_of (pos n) = Some n
rounds_of (negsuc n) = None

abbrev pub loops_of : Option ℕ → ℤ
loops_of None = negsuc 0
loops_of (Some n) = pos n

abbrev pub IsLoops : ℤ → Type 0
IsLoops (pos n) = (0 < n) × (n ≤ max_script_number)
IsLoops (negsuc n) = n ≡ 0

-- a script at its beginning: the timer's reference is the task's start
abbrev pub begun_at : ScriptView → ℕ → CursorView
begun_at s start = record { script = s; place = 0; reference = start }

-- behind an event the place goes up by one, for ever
abbrev pub at_next_event : CursorView → ℕ → CursorView
at_next_event c reference = record { script = c.script; place = c.place + 1; reference = reference }

-- a segment, and the cursor behind its event
pub record SegmentAndCursor : Type 0 where
  pub segment : Segment
  pub cursor : CursorView

-- what an event gives at a time. A timer gives the end of its period, counted from the reference
abbrev pub given_by : CursorView → ℕ → Option Event → SegmentAndCursor
given_by c time (Some (Run n)) = record { segment = RunFor n; cursor = at_next_event c c.reference }
given_by c time (Some (Sleep n)) =
    record { segment = Until (time + n); cursor = at_next_event c c.reference }
given_by c time (Some (Timer n)) =
    record { segment = Until (c.reference + n); cursor = at_next_event c (c.reference + n) }
given_by c time (Some Wait) = record { segment = WaitFor; cursor = at_next_event c c.reference }
given_by c time None = record { segment = End; cursor = c }

abbrev pub given_at : CursorView → ℕ → SegmentAndCursor
given_at c time = given_by c time (event_at c.script c.place)

-- a timer whose period is over already
abbrev pub is_timer_over : Option Event → ℕ → ℕ → Bool
is_timer_over (Some (Timer n)) reference time = nat_le (reference + n) time
is_timer_over (Some (Run n)) reference time = false
is_timer_over (Some (Sleep n)) reference time = false
is_timer_over (Some Wait) reference time = false
is_timer_over None reference time = false

-- it stands at such a timer
abbrev pub passes_late_timer : CursorView → ℕ → Bool
passes_late_timer c time = is_timer_over (event_at c.script c.place) c.reference time

-- what a task does next. At a late timer the reference becomes the time, and the next place is
-- asked: no timer from there is late, since its period is at least 1
abbrev pub segment_at : CursorView → ℕ → SegmentAndCursor
segment_at c time =
    if is_timer_over (event_at c.script c.place) c.reference time
    then given_at (at_next_event c time) time else given_at c time

-- without end each round is like the first, so from any place the same events follow as from one
-- place of the first round: there a cursor is kept
abbrev pub first_place : Option ℕ → ℕ → ℕ → ℕ
first_place None round place = place % round
first_place (Some n) round place = place

abbrev pub kept_cursor : CursorView → CursorView
kept_cursor c =
    record {
      script = c.script;
      place = first_place c.script.rounds (round_len c.script) c.place;
      reference = c.reference;
    }

-- what a task does next, and its cursor as it is kept
abbrev pub next_segment : CursorView → ℕ → SegmentAndCursor
next_segment c time =
    record {
      segment = (segment_at c time).segment;
      cursor = kept_cursor (segment_at c time).cursor;
    }

-- the work of a segment in which the task runs
abbrev pub work_in : Segment → Option ℕ
work_in (RunFor n) = Some n
work_in (Until u) = None
work_in WaitFor = None
work_in End = None

-- what a cursor gives, asked at one time after another
abbrev pub segments : (CursorView → ℕ → SegmentAndCursor) → CursorView → List ℕ → List Segment
segments ask c [] = []
segments ask c (t ∷ ts) = (ask c t).segment ∷ segments ask (ask c t).cursor ts

-- that cursors are kept is never seen: at any times they give what a place that goes up by one for
-- ever gives
abbrev pub GivesAsWritten : CursorView → Type 0
GivesAsWritten c = (times : List ℕ) → segments next_segment c times ≡ segments segment_at c times

-- what every segment keeps
abbrev pub IsSegment : Segment → Type 0
IsSegment (RunFor n) = (0 < n) × (n ≤ max_script_number)
IsSegment (Until u) = u < 2 ^ 49
IsSegment WaitFor = Unit {0}
IsSegment End = Unit {0}

-- when a task that was asked at a time may be asked again, at the earliest
abbrev pub next_ask : ℕ → Segment → ℕ
next_ask time (Until u) = u
next_ask time (RunFor n) = time
next_ask time WaitFor = time
next_ask time End = time
