use Rattle.std.proofs.Common.{refl, sym, ap, ◌∙◌, arith}
use Rattle.domain_run.specs.Domain.{Domain}
use Rattle.domain_run.specs.Happened.{logged_by_ticks}
use Rattle.domain_run.specs.Tick.{ticks}
use Rattle.domain_run.proofs.CallerLemmas.{kept_itself, kept_more, ticks_time, logs_none}
use Rattle.jump_run.proofs.Ticks.{ticks_more, logs_ticks, logs_still}
use Rattle.jump_run.proofs.Piecing.{leapt}
use Rattle.jump_run.proofs.advancing.leap_piece.Goals as goal

pub leaps-init : goal.leaps-init
leaps-init c = record { state = refl; most = omega arith; keys = kept_itself c.args.state.now.tasks; logged = logs_none c.args.log.now; bounded = λ some. absurd (omega (arith, some)) }

pub leap_logged-requires-clause-early : goal.leap_logged-requires-clause-early
leap_logged-requires-clause-early c =
    let time = ap (λ (d : Domain). d.time) c.leaps.invariant.state ∙ ticks_time c.leaps.ticks c.args.state.now in
    omega (arith, time, c.requires)

pub leaps-preserved : goal.leaps-preserved
leaps-preserved c =
    let start = c.args.state.now in
    let now = c.leaps.state in
    let inv = c.leaps.invariant in
    let made = c.in-Ok.made in
    record {
      state = c.in-Ok.ensures.ok ∙ ap (ticks made) inv.state ∙ ticks_more c.leaps.ticks made start;
      most = omega (arith, inv.most, c.in-Ok.ensures.most, c.leaps-test.true);
      bounded = λ some. leapt c.args.enough now c.leap_logged.new.self c.leaps.log c.leap_logged.new.log (sym c.has_enough.ensures ∙ c.if-not-has_enough.true) c.in-Ok.ensures.switches c.in-Ok.ensures.happened;
      logged = logs_ticks c.leaps.ticks made start now c.args.log.now c.leaps.log c.leap_logged.new.log inv.state inv.logged c.in-Ok.ensures.logged;
      keys = kept_more start.tasks now.tasks c.leap_logged.new.self.tasks inv.keys c.in-Ok.ensures.keys;
    }

pub returns-in_default-clause-logged : goal.returns-in_default-clause-logged
returns-in_default-clause-logged c = logs_still (logged_by_ticks c.leaps.ticks c.args.state.now) c.args.log.now c.leaps.log c.leap_logged.new.log c.leaps.invariant.logged c.in_default.ensures.unlogged
