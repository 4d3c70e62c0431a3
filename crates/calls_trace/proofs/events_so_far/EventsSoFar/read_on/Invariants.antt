use Rattle.std.proofs.Common.{ℕ, List}
use Rattle.calls_text.specs.Reader.{bytes_left}
use Rattle.calls_trace.specs.private.ReadEvents.{AreEventsSoFar}
use Rattle.calls_trace.proofs.events_so_far.EventsSoFar.read_on.Given as goal

abbrev pub invariant-sections : goal.invariant-sections
invariant-sections l = record {
  so_far : (text : List ℕ) → AreEventsSoFar text l.fn.reader l.fn.self → AreEventsSoFar text l.reader l.self;
}

abbrev pub decreases-sections : goal.decreases-sections
decreases-sections l = bytes_left l.reader
