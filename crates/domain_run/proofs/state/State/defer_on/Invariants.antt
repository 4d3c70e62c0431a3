use Rattle.std.proofs.Common.{◌≡◌, ◌<◌, ◌≤◌, ◌+◌, ◌-◌, length, All}
use Rattle.domain_run.specs.Happened.{logged_by_ticks}
use Rattle.domain_run.specs.Log.{HasLogged}
use Rattle.domain_run.specs.Tick.{ticks}
use Rattle.domain_run.specs.private.DeferringTimers.{awake, IsBare}
use Rattle.domain_run.proofs.state.State.defer_on.Given as goal

abbrev pub invariant-events : goal.invariant-events
invariant-events l = record {
  woken : awake l.lags l.self ≡ ticks l.ticks (awake l.fn.lags l.fn.self);
  most : l.ticks ≤ l.most;
  bare : All IsBare l.self.tasks;
  logged : HasLogged l.fn.log (logged_by_ticks l.ticks (awake l.fn.lags l.fn.self)) l.log;
  bounded : 0 < l.ticks → (length l.self.switches < l.enough + 64) × (length l.log.happened < l.enough + 2304);
}

abbrev pub decreases-events : goal.decreases-events
decreases-events l = l.most - l.ticks
