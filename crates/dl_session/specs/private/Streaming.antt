-- What is written of a run while it is made.
use Rattle.std.specs.Prelude.{ℕ, ◌≤◌, ◌^◌, Bool, true, false, List, length, map}
use Rattle.calls_text.specs.SectionView.{SectionView}
use Rattle.switch_text.specs.SlicedTrace.{wholes, all_entries}
use Rattle.switch_text.specs.Trace.{trace_of}
use Rattle.switch_text.specs.SlicedEvents.{logged_runs, events_in, logged_runs_text}
use Rattle.run_options.specs.declared.options.Print.{Print}
use Rattle.run_options.specs.declared.options.Print.TheVariants as prints
use Rattle.calls_trace.specs.Replay.{trace_of_sections}
use Rattle.calls_trace.specs.DomainEvents.{events_of_sections}
use Rattle.dl_session.specs.declared.played.PlayedRun.{PlayedRun}
use Rattle.dl_session.specs.declared.streaming.Streaming.{Streaming}
use Rattle.dl_session.specs.declared.streaming.Streaming.TheVariants.{Trace, Events}
use Rattle.dl_session.specs.private.PlayedBooks.{played_slices, played_events}

-- the text of histories
abbrev pub streamed_text : Streaming → List SectionView → List ℕ
streamed_text Trace histories = trace_of_sections histories
streamed_text Events histories = events_of_sections histories

-- the text for which it is asked
abbrev pub streamed_print : Streaming → Print
streamed_print Trace = prints.Trace
streamed_print Events = prints.Events

-- whether what happens is logged for it
abbrev pub needs_log : Streaming → Bool
needs_log Trace = false
needs_log Events = true

-- the text of runs
abbrev pub runs_text : Streaming → List PlayedRun → List ℕ
runs_text Trace runs = trace_of (wholes (map played_slices runs))
runs_text Events runs = logged_runs_text (logged_runs (map played_events runs))

-- its lines can be counted
abbrev pub AreCountable : Streaming → List PlayedRun → Type 0
AreCountable Trace runs = length (all_entries (wholes (map played_slices runs))) ≤ 2 ^ 54
AreCountable Events runs = length (events_in (logged_runs (map played_events runs))) ≤ 2 ^ 54
