use Rattle.std.proofs.Common.{◌≡◌, ◌≤◌, ◌-◌}
use Rattle.domain_run.specs.Keys.{AreKept}
use Rattle.streamed_run.proofs.Pieces.{IsStreamed}
use Rattle.streamed_run.proofs.streaming.advance_streamed_on.Given as goal

abbrev pub invariant-pieces : goal.invariant-pieces
invariant-pieces g l = record {
  streamed : IsStreamed (g.H.Sink.streamed l.fn.accounting) l.fn.log.happened l.ticks l.fn.state l.state (g.H.Sink.streamed l.accounting) l.log;
  kept : g.H.Sink.kept l.accounting ≡ g.H.Sink.kept l.fn.accounting;
  most : l.ticks ≤ l.n;
  keys : AreKept l.fn.state.tasks l.state.tasks;
}

abbrev pub decreases-pieces : goal.decreases-pieces
decreases-pieces g l = l.n - l.ticks
