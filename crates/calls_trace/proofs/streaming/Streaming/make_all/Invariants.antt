use Rattle.std.proofs.Common.{◌≡◌, length}
use Rattle.calls_trace.specs.private.Streaming.{IsStreamedBefore, led_to}
use Rattle.calls_trace.proofs.streaming.Streaming.make_all.Given as goal

abbrev pub invariant-calls : goal.invariant-calls
invariant-calls l = record {
  before : IsStreamedBefore l.self l.self.calls;
  leads : led_to l.self ≡ led_to l.fn.self;
}

abbrev pub decreases-calls : goal.decreases-calls
decreases-calls l = length l.self.calls
