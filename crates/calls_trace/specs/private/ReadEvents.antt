-- The sections of a text that are read for their events.
use Rattle.std.specs.Prelude.{ℕ, ◌≡◌, ◌+◌, ◌≤◌, ◌*◌, List, [], ◌∷◌, length, map, sum_by}
use Rattle.calls_text.specs.SectionView.{SectionView}
use Rattle.calls_text.specs.Spelling.{spelling}
use Rattle.calls_text.specs.Limits.{AreRead}
use Rattle.calls_text.specs.Reader.{ReaderView, IsAfter}
use Rattle.switch_text.specs.SlicedEvents.{EventRun, logged_runs}
use Rattle.calls_trace.specs.declared.playing_events.PlayingEvents.{PlayingEvents}
use Rattle.calls_trace.specs.declared.events_so_far.EventsSoFar.{EventsSoFar}
use Rattle.calls_trace.specs.Replay.{run_view}
use Rattle.calls_trace.specs.DomainEvents.{names_in, logged_of}
use Rattle.calls_trace.specs.private.PlayingEvents.{sliced_events_of}
use Rattle.calls_trace.specs.private.LoggedSoFar.{with_lines}

-- the run of a section, and what happens in it that has a line
abbrev pub logged_run_at : ℕ → SectionView → EventRun
logged_run_at base s = record {
  run = run_view base s;
  logged = record { base = base; names = names_in s; happened = with_lines (logged_of s) };
}

-- the first domain has the first CPUs of the machine, the second the next ones, and so on
abbrev pub logged_runs_from : ℕ → List SectionView → List EventRun
logged_runs_from base [] = []
logged_runs_from base (s ∷ ss) = logged_run_at base s ∷ logged_runs_from (base + s.cpus) ss

-- runs under way that lead to the runs of these sections, and to what happens in them
abbrev pub LeadToEvents : List PlayingEvents → List SectionView → Type 0
LeadToEvents runs sections = logged_runs (map sliced_events_of runs) ≡ logged_runs_from 0 sections

-- those of these sections, each on a domain of its own
pub record AreEventsFor (done : List SectionView) (r : EventsSoFar) : Type 0 where
  pub lead : LeadToEvents r.runs.items done
  pub count : length r.runs.items ≡ length done
  pub base_is : r.base ≡ sum_by (λ s. s.cpus) done
  pub inside : r.base ≤ 64 * length done

-- those of the sections that were read so far
pub record AreEventsSoFar (text : List ℕ) (reader : ReaderView) (r : EventsSoFar) : Type 0 where
  pub done : List SectionView
  pub following : IsAfter text done reader
  pub playing : AreEventsFor done r

-- so it is for some text
pub record AreEventsUnderWay (reader : ReaderView) (r : EventsSoFar) : Type 0 where
  pub text : List ℕ
  pub so_far : AreEventsSoFar text reader r

-- the text spells sections, and these runs lead to theirs
pub record AreEventsOf (text : List ℕ) (runs : List PlayingEvents) : Type 0 where
  pub sections : List SectionView
  pub read : AreRead sections
  pub spelled : text ≡ spelling sections
  pub lead : LeadToEvents runs sections
  pub few : length runs ≤ 8
