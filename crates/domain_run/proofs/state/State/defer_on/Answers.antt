use Rattle.std.proofs.Common.{refl, ap, ◌∙◌, arith}
use Rattle.domain_run.specs.Domain.{Domain}
use Rattle.domain_run.specs.Tick.{ticks}
use Rattle.domain_run.specs.private.DeferringTimers.{awake}
use Rattle.domain_run.proofs.Deferring.{ticks_time, ticks_twice}
use Rattle.domain_run.proofs.Logging.{logs_none}
use Rattle.domain_run.proofs.LoggedLags.{logs_twice}
use Rattle.domain_run.proofs.state.State.defer_on.Goals as goal

pub leap_deferring-made-requires-clause-early : goal.leap_deferring-made-requires-clause-early
leap_deferring-made-requires-clause-early c =
    let time = ap (λ (d : Domain). d.time) c.events.invariant.woken ∙ ticks_time c.events.ticks (awake c.args.lags.now c.args.self.now) in
    omega (arith, time, c.requires.early, c.events.invariant.most)

pub events-preserved : goal.events-preserved
events-preserved c =
    let l = c.events in
    let made = c.leap_deferring-made in
    let fewer = c.lacks.ensures in
    let yes = c.if-lacks.true in
    record {
      woken = made.ensures.ticks ∙ ap (ticks made.result) l.invariant.woken ∙ ticks_twice l.ticks made.result (awake c.args.lags.now c.args.self.now);
      most = omega (arith, l.invariant.most, made.ensures.most, c.events-test.true);
      bare = made.ensures.bare;
      logged = logs_twice l.ticks made.result (awake c.args.lags.now c.args.self.now) (awake l.lags l.self) c.args.log.now l.log made.new.log l.invariant.woken l.invariant.logged made.ensures.logged;
      bounded = λ some. (
        omega (arith, made.ensures.switches, fewer.switches yes),
        omega (arith, made.ensures.happened, fewer.happened yes),
      );
    }

pub events-init : goal.events-init
events-init c = record { woken = refl; most = omega arith; bare = c.requires.bare; logged = logs_none c.args.log.now; bounded = λ some. absurd (omega (arith, some)) }
