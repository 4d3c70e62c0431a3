use Rattle.std.proofs.Common.{◌≡◌, ◌≤◌, ◌-◌}
use Rattle.domain_run.specs.Tick.{ticks}
use Rattle.domain_run.specs.Keys.{AreKept}
use Rattle.jump_run.proofs.advancing.advance.Given as goal

abbrev pub invariant-events : goal.invariant-events
invariant-events l = record {
  state : l.state ≡ ticks l.ticks l.fn.state;
  most : l.ticks ≤ l.n;
  keys : AreKept l.fn.state.tasks l.state.tasks;
}

abbrev pub decreases-events : goal.decreases-events
decreases-events l = l.n - l.ticks
