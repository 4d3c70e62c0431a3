-- Events at a cut in time, and what of the events text is still to be written. The events text
-- knows nothing of these words.
use Rattle.std.specs.Prelude.{ℕ, ◌≡◌, ◌+◌, ◌*◌, ◌<◌, ◌≤◌, ◌==◌, ◌&&◌, ◌||◌, nat_lt, not, Bool, true, false, List, ◌++◌, length, map, filter, All, Option, Some, None, IfSome}
use Rattle.std.specs.List.{AllByRecursion}
use Rattle.domain_run.specs.declared.happened.Happened.{Happened}
use Rattle.switch_text.specs.declared.logged.DomainEvents.{DomainEvents}
use Rattle.switch_text.specs.Names.{name_of_task}
use Rattle.switch_text.specs.SlicedTrace.{SlicedView}
use Rattle.switch_text.specs.Events.{Event, in_sequence, lines_of_events}
use Rattle.switch_text.specs.EventLines.{IsLogged}
use Rattle.switch_text.specs.SlicedEvents.{SlicedEventsView, EventRun, events_in, logged_runs_text, is_logged_by}
use Rattle.switch_text.specs.private.Sending.{Sends}
use Rattle.switch_text.specs.private.Sliced.{is_before_cut, switches_before, switches_from_cut, names_by}

-- the lines of events, in their order
abbrev pub sequence_lines : List Event → List ℕ
sequence_lines es = lines_of_events (in_sequence es)

-- ---- a cut in time: before it is what is logged by its time, and all where there is none

abbrev pub is_event_before : Option ℕ → Event → Bool
is_event_before None e = true
is_event_before (Some cut) e = nat_lt e.time cut || (e.time == cut && nat_lt e.rank 4)

abbrev pub is_logged_before : Option ℕ → Happened → Bool
is_logged_before None h = true
is_logged_before (Some cut) h = is_logged_by cut h

abbrev pub logged_before : Option ℕ → List Happened → List Happened
logged_before cut logged = filter (is_logged_before cut) logged

abbrev pub logged_from_cut : Option ℕ → List Happened → List Happened
logged_from_cut cut logged = filter (λ h. not (is_logged_before cut h)) logged

-- of a run at hand what is before the cut
abbrev pub logged_run_before : Option ℕ → SlicedEventsView → EventRun
logged_run_before cut v = record {
  run = record { base = v.base; names = v.names; switches = switches_before cut v.at_hand };
  logged = record { base = v.base; names = v.names; happened = logged_before cut v.logged };
}

abbrev pub logged_runs_before : Option ℕ → List SlicedEventsView → List EventRun
logged_runs_before cut vs = map (logged_run_before cut) vs

-- its lines, of all runs
abbrev pub lines_before_cut : Option ℕ → List SlicedEventsView → List ℕ
lines_before_cut cut vs = sequence_lines (events_in (logged_runs_before cut vs))

-- the run without it
abbrev pub logged_run_from_cut : Option ℕ → SlicedEventsView → SlicedEventsView
logged_run_from_cut cut v = record {
  base = v.base;
  names = v.names;
  at_hand = switches_from_cut cut v.at_hand;
  to_come = v.to_come;
  logged = logged_from_cut cut v.logged;
  to_log = v.to_log;
}

abbrev pub logged_runs_from_cut : Option ℕ → List SlicedEventsView → List SlicedEventsView
logged_runs_from_cut cut vs = map (logged_run_from_cut cut) vs

-- nothing that is to come is before the cut
pub record AreEventsFinal (cut : Option ℕ) (v : SlicedEventsView) : Type 0 where
  pub switches : AllByRecursion (λ s. is_before_cut cut s.time ≡ false) v.to_come
  pub logged : AllByRecursion (λ h. is_logged_before cut h ≡ false) v.to_log

-- and if there is a cut, an event at hand is before it
pub record AreEventsCutAt (cut : Option ℕ) (vs : List SlicedEventsView) : Type 0 where
  pub final : AllByRecursion (AreEventsFinal cut) vs
  pub some : IfSome cut (λ _. 0 < length (events_in (logged_runs_before cut vs)))

-- how the tasks of a run, by its place among the runs, are named
abbrev pub names_logged_by : List EventRun → ℕ → ℕ → List ℕ
names_logged_by rs = names_by (map (λ r. r.run) rs)

-- of the events text of runs so many bytes went out, these wait, and the lines of what is left are
-- still to be made
pub record IsSlicingEvents (before after : Option (List ℕ)) (all left : List EventRun) (sent : ℕ)
    (waiting : List ℕ) : Type 0 where
  pub sends : Sends before after (logged_runs_text all) sent
      (waiting ++ sequence_lines (events_in left))
  pub bound : sent + length waiting + 512 * length (events_in left)
      ≤ 14 + 512 * length (events_in all)

-- its switches alone
abbrev pub switches_part : SlicedEventsView → SlicedView
switches_part v =
    record { base = v.base; names = v.names; at_hand = v.at_hand; to_come = v.to_come }

-- what is logged of a run and is before the cut, as it is written
pub record IsLoggedFront (cut : Option ℕ) (v : SlicedEventsView) (t : DomainEvents) : Type 0 where
  pub tellable : IsLogged t
  pub base : t.base ≡ v.base
  pub happened : t.happened.now ≡ logged_before cut v.logged
  pub names : All (λ h. name_of_task t.names.now h.number ≡ v.names h.number) t.happened.now
