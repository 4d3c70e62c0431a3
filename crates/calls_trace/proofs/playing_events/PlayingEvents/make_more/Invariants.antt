use Rattle.std.proofs.Common.{◌≡◌, length}
use Rattle.switch_text.specs.SlicedEvents.{whole_logged_run}
use Rattle.calls_trace.specs.private.PlayingEvents.{sliced_events_of}
use Rattle.calls_trace.proofs.playing_events.PlayingEvents.make_more.Given as goal

abbrev pub invariant-pieces : goal.invariant-pieces
invariant-pieces l = whole_logged_run (sliced_events_of l.self) ≡ whole_logged_run (sliced_events_of l.fn.self)

abbrev pub decreases-pieces : goal.decreases-pieces
decreases-pieces l = length l.self.calls
