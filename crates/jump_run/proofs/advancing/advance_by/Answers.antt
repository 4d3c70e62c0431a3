use Rattle.std.proofs.Common.{refl, sym, ap, subst, ◌∙◌, arith}
use Rattle.domain_run.specs.Log.{LogView, HasLogged}
use Rattle.domain_run.specs.Domain.{Domain}
use Rattle.domain_run.specs.Happened.{logged_by_ticks}
use Rattle.domain_run.specs.Tick.{ticks}
use Rattle.domain_run.proofs.CallerLemmas.{kept_itself, kept_more, ticks_time, logs_none}
use Rattle.jump_run.proofs.Ticks.{ticks_more, logs_ticks, logs_still}
use Rattle.jump_run.proofs.advancing.advance_by.Goals as goal
use Rattle.jump_run.proofs.advancing.advance_by.Goals.{else-events-test, then-events-test+in_default}

pub events-init : goal.events-init
events-init g c = record { state = refl; most = omega arith; keys = kept_itself c.args.state.now.tasks; logged = logs_none c.args.log.now; plans = c.requires.plans; slices = c.requires.slices }

pub jump_with-requires-clause-early : goal.jump_with-requires-clause-early
jump_with-requires-clause-early g c =
    let time = ap (λ (d : Domain). d.time) c.events.invariant.state ∙ ticks_time c.events.ticks c.args.state.now in
    omega (arith, time, c.requires.early)

pub events-preserved : goal.events-preserved
events-preserved g c =
    let start = c.args.state.now in
    let now = c.events.state in
    let inv = c.events.invariant in
    let made = c.in-Ok.made in
    record {
      state = c.in-Ok.ensures.ok ∙ ap (ticks made) inv.state ∙ ticks_more c.events.ticks made start;
      most = omega (arith, inv.most, c.in-Ok.ensures.most, c.events-test.true);
      logged = logs_ticks c.events.ticks made start now c.args.log.now c.events.log c.jump_with.new.log inv.state inv.logged c.in-Ok.ensures.logged;
      keys = kept_more start.tasks now.tasks c.jump_with.new.state.tasks inv.keys c.in-Ok.ensures.keys;
      plans = c.jump_with.ensures.plans;
      slices = c.jump_with.ensures.slices;
    }

pub returns-clause-logged : goal.returns-clause-logged
returns-clause-logged g c =
    let hs = logged_by_ticks c.events.ticks c.args.state.now in
    elim c.events-test.branch [
      | else-events-test w ↦ subst (λ (log : LogView). HasLogged c.args.log.now hs log) (sym w.log-is) c.events.invariant.logged
      | then-events-test+in_default w ↦ subst (λ (log : LogView). HasLogged c.args.log.now hs log) (sym w.log-is) (logs_still hs c.args.log.now c.events.log w.jump_with.new.log c.events.invariant.logged w.in_default.ensures.unlogged)
    ]
