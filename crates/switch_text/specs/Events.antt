-- The events text of several runs: the trace, and between its lines those of what happens, for all
-- domains in one order (own; ftrace orders by time).
use Rattle.std.specs.Prelude.{ℕ, ◌+◌, ◌==◌, ◌&&◌, ◌||◌, nat_lt, Bool, if◌then◌else◌, List, [], ◌∷◌, ◌++◌, map, filter}
use Rattle.std.specs.List.{flat_map}
use Rattle.domain_run.specs.Switch.{Switch}
use Rattle.domain_run.specs.declared.happened.Happened.{Happened}
use Rattle.domain_run.specs.Happened.{kind_rank}
use Rattle.switch_text.specs.Line.{switch_line}
use Rattle.switch_text.specs.LoggedLine.{has_line, logged_line_of}
use Rattle.switch_text.specs.Trace.{SwitchesView, header}

-- what happens in one domain: the CPU of the machine that is its CPU 0, the names of its tasks by
-- number, and what happens to them
pub record LoggedView : Type 0 where
  pub base : ℕ
  pub names : ℕ → List ℕ
  pub happened : List Happened

-- when it is, which it is of what stands at one time, on which CPU of the machine, of which task,
-- and its line
pub record Event : Type 0 where
  pub time : ℕ
  pub rank : ℕ
  pub cpu : ℕ
  pub number : ℕ
  pub line : List ℕ

abbrev pub logged_event : LoggedView → Happened → Event
logged_event t h = record {
  time = h.time;
  rank = kind_rank h.what;
  cpu = t.base + h.cpu;
  number = h.number;
  line = logged_line_of t.names t.base h;
}

-- a switch comes after all that happens at its time
abbrev pub switch_event : SwitchesView → Switch → Event
switch_event r s = record {
  time = s.time;
  rank = 7;
  cpu = r.base + s.cpu;
  number = 0;
  line = switch_line r.names r.base s;
}

abbrev pub logged_events : LoggedView → List Event
logged_events t = map (logged_event t) (filter (λ h. has_line h.what) t.happened)

abbrev pub switch_events : SwitchesView → List Event
switch_events r = map (switch_event r) r.switches

-- by time; at one time by what happens; of the same by the CPU of the machine, then by number
abbrev pub comes_before : Event → Event → Bool
comes_before a b =
    nat_lt a.time b.time || (a.time == b.time
    && (nat_lt a.rank b.rank || (a.rank == b.rank
    && (nat_lt a.cpu b.cpu || (a.cpu == b.cpu && nat_lt a.number b.number)))))

-- an event, put before the first one that does not come before it
abbrev pub with_event : Event → List Event → List Event
with_event e [] = e ∷ []
with_event e (f ∷ fs) = if comes_before f e then f ∷ with_event e fs else e ∷ f ∷ fs

-- the events in their order; where neither comes before the other they stay as they stood
unfoldable pub in_sequence : List Event → List Event
in_sequence [] = []
in_sequence (e ∷ es) = with_event e (in_sequence es)

-- all that happens and all switches
abbrev pub all_events : List SwitchesView → List LoggedView → List Event
all_events runs logged = flat_map logged_events logged ++ flat_map switch_events runs

unfoldable pub lines_of_events : List Event → List ℕ
lines_of_events es = flat_map (λ e. e.line) es

-- the header, and then the lines of all of them in their order
unfoldable pub events_of : List SwitchesView → List LoggedView → List ℕ
events_of runs logged = header ++ lines_of_events (in_sequence (all_events runs logged))
