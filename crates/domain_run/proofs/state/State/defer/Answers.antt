use Rattle.std.proofs.Common.{◌≡◌, ◌<◌, ◌+◌, length, ap, subst, arith}
use Rattle.domain_run.specs.Domain.{Domain}
use Rattle.domain_run.specs.Happened.{logged_by_ticks}
use Rattle.domain_run.specs.Log.{HasLogged}
use Rattle.domain_run.proofs.Logging.{logs_none}
use Rattle.domain_run.proofs.state.State.defer.Goals as goal

pub returns-then-not-may_defer-clause-logged : goal.returns-then-not-may_defer-clause-logged
returns-then-not-may_defer-clause-logged c = logs_none c.args.log.now

pub returns-clause-logged : goal.returns-clause-logged
returns-clause-logged c = subst (λ (d : Domain). HasLogged c.args.log.now (logged_by_ticks c.defer_on-ticks.result d) c.defer_on-ticks.new.log) c.deferred_lag.ensures.awake c.defer_on-ticks.ensures.logged

pub returns-clause-bounded : goal.returns-clause-bounded
returns-clause-bounded c some =
    let few = c.defer_on-ticks.ensures.bounded some in
    (omega (arith, few.0, ap (λ (d : Domain). length d.switches) c.take_back.ensures), few.1)
