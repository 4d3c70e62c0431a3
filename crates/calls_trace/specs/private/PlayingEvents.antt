-- The run of a section, and what happens in it, while it is made.
use Rattle.std.specs.Prelude.{ℕ, List, ◌∷◌}
use Rattle.domain_run.specs.declared.call.Call.{Call}
use Rattle.domain_run.specs.declared.call.Call.TheVariants.{Advance}
use Rattle.domain_run.specs.declared.happened.Happened.{Happened}
use Rattle.domain_run.specs.Switch.{Switch}
use Rattle.domain_run.specs.Passing.{without_switches}
use Rattle.domain_run.specs.Run.{after_calls}
use Rattle.switch_text.specs.Names.{name_of_task}
use Rattle.switch_text.specs.SlicedEvents.{SlicedEventsView}
use Rattle.calls_trace.specs.Replay.{names_of}
use Rattle.calls_trace.specs.declared.playing_events.PlayingEvents.{PlayingEvents}
use Rattle.calls_trace.specs.private.LoggedSoFar.{lines_logged_by}

-- the calls that are left: what is left of the advance under way, and those after it
abbrev pub calls_to_make : PlayingEvents → List Call
calls_to_make p = Advance p.left ∷ p.calls

-- the names of the whole run
abbrev pub names_to_give : PlayingEvents → (ℕ → List ℕ)
names_to_give p = names_of p.run.logged_run.domain (calls_to_make p) (name_of_task p.run.names)

-- the switches that the calls make
abbrev pub switches_to_make : PlayingEvents → List Switch
switches_to_make p =
    (after_calls (without_switches p.run.logged_run.domain) (calls_to_make p)).switches

-- what they log that has a line
abbrev pub lines_to_log : PlayingEvents → List Happened
lines_to_log p = lines_logged_by p.run.logged_run.domain (calls_to_make p)

-- as it is written
abbrev pub sliced_events_of : PlayingEvents → SlicedEventsView
sliced_events_of p = record {
  base = p.base;
  names = names_to_give p;
  at_hand = p.run.logged_run.domain.switches;
  to_come = switches_to_make p;
  logged = p.run.logged_run.logged;
  to_log = lines_to_log p;
}
