use Rattle.std.proofs.Common.{refl, sym, ap, ◌∙◌, arith}
use Rattle.domain_run.specs.Domain.{Domain}
use Rattle.domain_run.specs.Happened.{logged_by_ticks}
use Rattle.domain_run.specs.Tick.{ticks}
use Rattle.domain_run.proofs.CallerLemmas.{kept_itself, kept_more, ticks_time, logs_none}
use Rattle.jump_run.proofs.Ticks.{ticks_more, logs_ticks, logs_still}
use Rattle.jump_run.proofs.Piecing.{adds}
use Rattle.jump_run.proofs.advancing.advance_alone.Goals as goal

pub events-init : goal.events-init
events-init g c = record { state = refl; most = omega arith; keys = kept_itself c.args.state.now.tasks; logged = logs_none c.args.log.now; bounded = λ some. absurd (omega (arith, some)) }

pub jump-requires-clause-early : goal.jump-requires-clause-early
jump-requires-clause-early g c =
    let time = ap (λ (d : Domain). d.time) c.events.invariant.state ∙ ticks_time c.events.ticks c.args.state.now in
    omega (arith, time, c.requires)

pub events-preserved : goal.events-preserved
events-preserved g c =
    let start = c.args.state.now in
    let now = c.events.state in
    let inv = c.events.invariant in
    let made = c.in-Ok.made in
    record {
      state = c.in-Ok.ensures.ok ∙ ap (ticks made) inv.state ∙ ticks_more c.events.ticks made start;
      most = omega (arith, inv.most, c.in-Ok.ensures.most, c.events-test.true);
      bounded = λ some. adds c.args.enough now c.jump.new.state c.events.log c.jump.new.log (sym c.has_enough.ensures ∙ c.if-not-has_enough.true) c.in-Ok.ensures.event;
      logged = logs_ticks c.events.ticks made start now c.args.log.now c.events.log c.jump.new.log inv.state inv.logged c.in-Ok.ensures.logged;
      keys = kept_more start.tasks now.tasks c.jump.new.state.tasks inv.keys c.in-Ok.ensures.keys;
    }

pub returns-in_default-clause-logged : goal.returns-in_default-clause-logged
returns-in_default-clause-logged g c = logs_still (logged_by_ticks c.events.ticks c.args.state.now) c.args.log.now c.events.log c.jump.new.log c.events.invariant.logged c.in_default.ensures.unlogged
