use Rattle.std.proofs.Common.{◌≡◌, ◌≤◌, ◌-◌, vec_capacity}
use Rattle.domain_run.specs.Tick.{ticks}
use Rattle.domain_run.specs.Happened.{logged_by_ticks}
use Rattle.domain_run.specs.Keys.{AreKept}
use Rattle.domain_run.specs.Log.{HasLogged}
use Rattle.jump_run.proofs.advancing.advance_by.Given as goal

abbrev pub invariant-events : goal.invariant-events
invariant-events g l = record {
  state : l.state ≡ ticks l.ticks l.fn.state;
  most : l.ticks ≤ l.n;
  keys : AreKept l.fn.state.tasks l.state.tasks;
  logged : HasLogged l.fn.log (logged_by_ticks l.ticks l.fn.state) l.log;
  plans : vec_capacity l.lists.plans ≡ 64;
  slices : vec_capacity l.lists.slices ≡ 64;
}

abbrev pub decreases-events : goal.decreases-events
decreases-events g l = l.n - l.ticks
