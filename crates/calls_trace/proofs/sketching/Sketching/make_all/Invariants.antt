use Rattle.std.proofs.Common.{◌≡◌, length}
use Rattle.calls_trace.specs.private.Streaming.{IsStreamedBefore, led_to}
use Rattle.calls_trace.specs.private.Sketched.{asked_in, streamed_as}
use Rattle.calls_trace.proofs.sketching.Sketching.make_all.Given as goal

abbrev pub invariant-calls : goal.invariant-calls
invariant-calls l = record {
  before : IsStreamedBefore (streamed_as l.self) l.self.calls;
  leads : led_to (streamed_as l.self) ≡ led_to (streamed_as l.fn.self);
  asked : asked_in l.self ≡ asked_in l.fn.self;
}

abbrev pub decreases-calls : goal.decreases-calls
decreases-calls l = length l.self.calls
