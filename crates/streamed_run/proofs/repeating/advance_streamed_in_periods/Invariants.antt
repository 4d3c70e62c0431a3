use Rattle.std.proofs.Common.{◌≤◌, ◌-◌}
use Rattle.domain_run.specs.Keys.{AreKept}
use Rattle.streamed_run.specs.private.Trail.{KnowsTrail}
use Rattle.streamed_run.proofs.Pieces.{IsStreamed}
use Rattle.streamed_run.proofs.repeating.advance_streamed_in_periods.Given as goal

abbrev pub invariant-steps : goal.invariant-steps
invariant-steps l = record {
  streamed : IsStreamed l.fn.accounting l.fn.log.happened l.ticks l.fn.state l.state l.accounting l.log;
  most : l.ticks ≤ l.n;
  keys : AreKept l.fn.state.tasks l.state.tasks;
  knows : KnowsTrail l.trail l.state l.accounting;
}

abbrev pub decreases-steps : goal.decreases-steps
decreases-steps l = l.n - l.ticks
