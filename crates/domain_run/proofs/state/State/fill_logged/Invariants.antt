use Rattle.std.proofs.Common.{◌≡◌, ◌≤◌, ◌-◌}
use Rattle.domain_run.specs.Happened.{logged_by_ticks}
use Rattle.domain_run.specs.Keys.{AreKept}
use Rattle.domain_run.specs.Log.{HasLogged}
use Rattle.domain_run.specs.Tick.{ticks}
use Rattle.domain_run.proofs.state.State.fill_logged.Given as goal

abbrev pub invariant-events : goal.invariant-events
invariant-events l = record {
  state : l.self ≡ ticks (l.n - l.left) l.fn.self;
  most : l.left ≤ l.n;
  logged : HasLogged l.fn.log (logged_by_ticks (l.n - l.left) l.fn.self) l.log;
  keys : AreKept l.fn.self.tasks l.self.tasks;
}

abbrev pub decreases-events : goal.decreases-events
decreases-events l = l.left
