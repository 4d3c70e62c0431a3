use Rattle.std.proofs.Common.{◌≡◌, ◌*◌}
use Rattle.std.specs.Prelude.{fold, take}
use Rattle.deadline_promise.specs.private.Spans.{empty_span, span_with_event, IsSmallSpan}
use Rattle.deadline_promise.proofs.demand.span_of_events.Given as goal

abbrev pub invariant-loop-i : goal.invariant-loop-i
invariant-loop-i l = (l.span ≡ fold span_with_event empty_span (take l.i l.events)) × IsSmallSpan (l.i * 1000000000) l.span
