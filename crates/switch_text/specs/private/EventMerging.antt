-- What happens and switches at once: what is left of both, and which comes next. The events text
-- knows nothing of these words.
use Rattle.std.specs.Prelude.{ℕ, ◌≡◌, ◌+◌, ◌*◌, ◌<◌, ◌≤◌, ◌^◌, IsTrue, Bool, not, ◌||◌, nat_lt, if◌then◌else◌, List, [], ◌++◌, length, map, slice_index, Option, Some, None}
use Rattle.switch_text.specs.declared.run.Run.{Run}
use Rattle.switch_text.specs.declared.logged.DomainEvents.{DomainEvents}
use Rattle.switch_text.specs.declared.merge.Next.{Next}
use Rattle.switch_text.specs.declared.logged_merge.NextLogged.{NextLogged}
use Rattle.switch_text.specs.declared.event_merge.EventMerge.{EventMerge}
use Rattle.switch_text.specs.declared.event_merge.NextEvent.{NextEvent}
use Rattle.switch_text.specs.Trace.{Entry}
use Rattle.switch_text.specs.Runs.{views}
use Rattle.switch_text.specs.Events.{Event, in_sequence, lines_of_events}
use Rattle.switch_text.specs.EventLines.{logged_views}
use Rattle.switch_text.specs.private.Merging.{entries_left, places_stepped, next_entry, IsAmong, IsPrinted, IsRunAt}
use Rattle.switch_text.specs.private.LoggedMerging.{is_line_logged, left_logged, count_left, next_logged_event, IsShown}

-- how far each domain has gone, in its switches and in what happens
pub record EventPlaces : Type 0 where
  pub switches : List ℕ
  pub logged : List ℕ

abbrev pub places_of : EventMerge → EventPlaces
places_of m = record { switches = m.switches.places; logged = m.logged }

-- an entry of the trace among the events
abbrev pub of_entry : Entry → Event
of_entry e = record { time = e.time; rank = 7; cpu = e.cpu; number = 0; line = e.line }

-- what happens, and then the switches, of each domain from its places on
abbrev pub left_events : List Run → List DomainEvents → EventPlaces → List Event
left_events runs logged p = left_logged (logged_views logged) p.logged
    ++ map of_entry (entries_left (views runs) p.switches)

-- how much is left, cuts too
abbrev pub count_events : List Run → List DomainEvents → EventPlaces → ℕ
count_events runs logged p = count_left (logged_views logged) p.logged + length
    (entries_left (views runs) p.switches)

-- the places after the next
abbrev pub after_next : EventPlaces → NextEvent → EventPlaces
after_next p (NextEvent.DomainEvents n) =
    record { switches = p.switches; logged = places_stepped p.logged n.index }
after_next p (NextEvent.Switch n) =
    record { switches = places_stepped p.switches n.index; logged = p.logged }

-- the line of the next, where it has one
abbrev pub line_of_next : NextEvent → List ℕ
line_of_next (NextEvent.DomainEvents n) =
    if is_line_logged n.happened.now then (next_logged_event n).line else []
line_of_next (NextEvent.Switch n) = (next_entry n).line

-- what happens goes before a switch of its time or of a later one, and a cut at once
abbrev pub goes_first : NextLogged → Next → Bool
goes_first n s =
    not (is_line_logged n.happened.now) || not (nat_lt s.switch.now.time n.happened.now.time)

abbrev pub first_event_of : Option NextLogged → Option Next → Option NextEvent
first_event_of None None = None
first_event_of None (Some s) = Some (NextEvent.Switch s)
first_event_of (Some n) None = Some (NextEvent.DomainEvents n)
first_event_of (Some n) (Some s) = if goes_first n s then Some (NextEvent.DomainEvents n)
    else Some (NextEvent.Switch s)

-- the line goes first, and then the lines of what is left after it
pub record IsEventStep (before after : List Event) (line : List ℕ) : Type 0 where
  pub lines : lines_of_events (in_sequence before) ≡ line ++ lines_of_events (in_sequence after)
  pub count : length line ≤ 512 → length line + 512 * length after ≤ 512 * length before

-- the places can go on by one
abbrev pub CanStep : EventPlaces → NextEvent → Type 0
CanStep p (NextEvent.DomainEvents n) = (n.index < 8) × (slice_index p.logged n.index + 1 < 2 ^ 64)
CanStep p (NextEvent.Switch n) = (n.index < 8) × (slice_index p.switches n.index + 1 < 2 ^ 64)

-- its line, if it has one, can be made
abbrev pub CanShow : List Run → NextEvent → Type 0
CanShow runs (NextEvent.DomainEvents n) = IsTrue (is_line_logged n.happened.now) → IsShown n
CanShow runs (NextEvent.Switch n) = IsPrinted n × (IsRunAt runs n × IsAmong n)

pub record IsNextEvent (runs : List Run) (logged : List DomainEvents) (p : EventPlaces)
    (n : NextEvent)
    : Type 0 where
  pub step : IsEventStep (left_events runs logged p) (left_events runs logged (after_next p n))
      (line_of_next n)
  pub smaller : count_events runs logged (after_next p n) < count_events runs logged p
  pub places : CanStep p n
  pub shown : CanShow runs n

-- nothing is left, or what comes next is found
abbrev pub IsEventFound : List Run → List DomainEvents → EventPlaces → Option NextEvent → Type 0
IsEventFound runs logged p None = left_events runs logged p ≡ []
IsEventFound runs logged p (Some n) = IsNextEvent runs logged p n
