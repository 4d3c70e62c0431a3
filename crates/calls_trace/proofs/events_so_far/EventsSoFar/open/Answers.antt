use Rattle.std.proofs.Common.{List, length, map, refl, ap, arith}
use Rattle.switch_text.specs.SlicedEvents.{logged_runs}
use Rattle.calls_trace.specs.declared.playing_events.PlayingEvents.{PlayingEvents}
use Rattle.calls_trace.specs.private.PlayingEvents.{sliced_events_of}
use Rattle.calls_trace.proofs.events_so_far.EventsSoFar.open.Goals as goal

pub returns : goal.returns
returns c =
    let none = c.in_ok-with_capacity.ensures.items in
    record { lead = ap (λ (runs : List PlayingEvents). logged_runs (map sliced_events_of runs)) none; count = ap length none; base_is = refl; inside = omega arith }
