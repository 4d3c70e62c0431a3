-- The events text of runs that are written while they are made (own).
use Rattle.std.specs.Prelude.{ℕ, ◌≡◌, ◌++◌, ◌==◌, ◌&&◌, ◌||◌, nat_lt, Bool, List, [], map, drop}
use Rattle.domain_run.specs.Switch.{Switch}
use Rattle.domain_run.specs.declared.happened.Happened.{Happened}
use Rattle.domain_run.specs.Happened.{kind_rank}
use Rattle.switch_text.specs.Trace.{SwitchesView}
use Rattle.switch_text.specs.Events.{LoggedView, Event, all_events, events_of}

-- a run while it is made: the CPU of the machine that is its domain's CPU 0, the names of all its
-- tasks by number, the switches at hand and those to come, and of what happens and has a line what
-- is logged so far and what is still to be logged
pub record SlicedEventsView : Type 0 where
  pub base : ℕ
  pub names : ℕ → List ℕ
  pub at_hand : List Switch
  pub to_come : List Switch
  pub logged : List Happened
  pub to_log : List Happened

-- a run and what happens in it
pub record EventRun : Type 0 where
  pub run : SwitchesView
  pub logged : LoggedView

-- all of it that is not forgotten
abbrev pub whole_logged_run : SlicedEventsView → EventRun
whole_logged_run v = record {
  run = record { base = v.base; names = v.names; switches = v.at_hand ++ v.to_come };
  logged = record { base = v.base; names = v.names; happened = v.logged ++ v.to_log };
}

abbrev pub logged_runs : List SlicedEventsView → List EventRun
logged_runs vs = map whole_logged_run vs

-- the events of several runs, and their text
abbrev pub events_in : List EventRun → List Event
events_in rs = all_events (map (λ r. r.run) rs) (map (λ r. r.logged) rs)

abbrev pub logged_runs_text : List EventRun → List ℕ
logged_runs_text rs = events_of (map (λ r. r.run) rs) (map (λ r. r.logged) rs)

-- the first of the switches at hand and the first of what is logged are forgotten
abbrev pub without_fronts : ℕ → ℕ → SlicedEventsView → SlicedEventsView
without_fronts switches logged v = record {
  base = v.base;
  names = v.names;
  at_hand = drop switches v.at_hand;
  to_come = v.to_come;
  logged = drop logged v.logged;
  to_log = v.to_log;
}

-- nothing is to come
pub record IsAllAtHand (v : SlicedEventsView) : Type 0 where
  pub switches : v.to_come ≡ []
  pub logged : v.to_log ≡ []

-- it is logged when a run is made up to a time: what ends a tick at that time is, what begins one
-- is not
abbrev pub is_logged_by : ℕ → Happened → Bool
is_logged_by time h = nat_lt h.time time || (h.time == time && nat_lt (kind_rank h.what) 4)
