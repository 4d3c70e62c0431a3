-- The stretches of work in some events that follow one another.
use Rattle.std.specs.Prelude.{ℕ, ◌+◌, ◌*◌, ◌≤◌, ◌==◌, max, true, false, if◌then◌else◌, List, fold, Option, Some, None}
use Rattle.task_script.specs.declared.phase.Event.{Event}
use Rattle.task_script.specs.declared.phase.Event.TheVariants.{Run, Sleep, Timer, Wait}
use Rattle.task_script.specs.script.ScriptView.{PhaseView}
use Rattle.deadline_promise.specs.declared.span.Span.{Span}

-- no events
abbrev pub empty_span : Span
empty_span = record { free = true; first = 0; inner = 0; last = 0 }

-- one event more: work, or what ends a stretch
abbrev pub span_with_work : Span → ℕ → Span
span_with_work s n =
    if s.free then record s { first = s.first + n } else record s { last = s.last + n }

abbrev pub span_with_end : Span → Span
span_with_end s =
    if s.free then record s { free = false; inner = 0; last = 0 }
    else record s { inner = max s.inner s.last; last = 0 }

abbrev pub span_with_event : Span → Event → Span
span_with_event s (Run n) = span_with_work s n
span_with_event s (Sleep n) = span_with_end s
span_with_event s (Timer n) = span_with_end s
span_with_event s Wait = span_with_end s

-- the events of two, one after the other
abbrev pub joined_spans : Span → Span → Span
joined_spans a b =
    if a.free then record b { first = a.first + b.first }
    else (if b.free then record a { last = a.last + b.first }
    else record {
      free = false;
      first = a.first;
      inner = max a.inner (max (a.last + b.first) b.inner);
      last = b.last;
    })

-- the same events so many times over, at least once
abbrev pub span_times : Span → ℕ → Span
span_times s n =
    if s.free then record s { first = s.first * n }
    else (if n == 1 then s else record s { inner = max s.inner (s.last + s.first) })

-- the greatest stretch
abbrev pub greatest : Span → ℕ
greatest s = if s.free then s.first else max s.first (max s.inner s.last)

-- no number in it is above this
pub record IsSmallSpan (most : ℕ) (s : Span) : Type 0 where
  pub first : s.first ≤ most
  pub inner : s.inner ≤ most
  pub last : s.last ≤ most

-- of the events of a list, of a phase, and of a round
abbrev pub span_of_events : List Event → Span
span_of_events events = fold span_with_event empty_span events

abbrev pub span_of_phase : PhaseView → Span
span_of_phase p = span_times (span_of_events p.events) p.count

abbrev pub with_phase : Span → PhaseView → Span
with_phase s p = joined_spans s (span_of_phase p)

abbrev pub span_of_round : List PhaseView → Span
span_of_round phases = fold with_phase empty_span phases

-- of so many rounds; none where a round without an end is repeated for ever
abbrev pub work_max_by : Option ℕ → Span → Option ℕ
work_max_by None round = if round.free then None else Some (greatest (span_times round 2))
work_max_by (Some n) round = Some (greatest (span_times round n))
