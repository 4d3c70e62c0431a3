use Rattle.std.proofs.Common.{◌≡◌, ◌*◌, ◌^◌}
use Rattle.std.specs.Prelude.{fold, take}
use Rattle.deadline_promise.specs.private.Spans.{empty_span, with_phase, IsSmallSpan}
use Rattle.deadline_promise.proofs.demand.span_of_round.Given as goal

abbrev pub invariant-loop-i : goal.invariant-loop-i
invariant-loop-i l = (l.span ≡ fold with_phase empty_span (take l.i l.phases)) × IsSmallSpan (l.i * 2 ^ 66) l.span
