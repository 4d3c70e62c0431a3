use Rattle.std.proofs.Common.{◌≡◌, ◌≤◌, ◌-◌}
use Rattle.domain_run.specs.Tick.{ticks}
use Rattle.domain_run.specs.Keys.{AreKept}
use Rattle.domain_run.proofs.buffered.Buffered.fill.Given as goal

abbrev pub invariant-events : goal.invariant-events
invariant-events l = record {
  state : l.self-inside.state ≡ ticks (l.n - l.left) l.fn.self;
  most : l.left ≤ l.n;
  keys : AreKept l.fn.self.tasks l.self-inside.state.tasks;
}

abbrev pub decreases-events : goal.decreases-events
decreases-events l = l.left
