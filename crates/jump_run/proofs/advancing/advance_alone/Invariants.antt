use Rattle.std.proofs.Common.{◌≡◌, ◌<◌, ◌≤◌, ◌-◌}
use Rattle.domain_run.specs.Tick.{ticks}
use Rattle.domain_run.specs.Happened.{logged_by_ticks}
use Rattle.domain_run.specs.Keys.{AreKept}
use Rattle.domain_run.specs.Log.{HasLogged}
use Rattle.jump_run.specs.Pieces.{IsBounded}
use Rattle.jump_run.proofs.advancing.advance_alone.Given as goal

abbrev pub invariant-events : goal.invariant-events
invariant-events g l = record {
  state : l.state ≡ ticks l.ticks l.fn.state;
  most : l.ticks ≤ l.n;
  keys : AreKept l.fn.state.tasks l.state.tasks;
  bounded : 0 < l.ticks → IsBounded l.enough l.state l.log;
  logged : HasLogged l.fn.log (logged_by_ticks l.ticks l.fn.state) l.log;
}

abbrev pub decreases-events : goal.decreases-events
decreases-events g l = l.n - l.ticks
