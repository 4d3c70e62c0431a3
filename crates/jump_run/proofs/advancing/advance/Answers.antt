use Rattle.std.proofs.Common.{refl, ap, ◌∙◌, arith}
use Rattle.domain_run.specs.Domain.{Domain}
use Rattle.domain_run.specs.Tick.{ticks}
use Rattle.domain_run.proofs.CallerLemmas.{kept_itself, kept_more, ticks_time}
use Rattle.jump_run.proofs.Ticks.{ticks_more}
use Rattle.jump_run.proofs.advancing.advance.Goals as goal

pub events-init : goal.events-init
events-init c = record { state = refl; most = omega arith; keys = kept_itself c.args.state.now.tasks }

pub leap-requires-clause-early : goal.leap-requires-clause-early
leap-requires-clause-early c =
    let time = ap (λ (d : Domain). d.time) c.events.invariant.state ∙ ticks_time c.events.ticks c.args.state.now in
    omega (arith, time, c.requires)

pub events-preserved : goal.events-preserved
events-preserved c =
    let start = c.args.state.now in
    let now = c.events.state in
    let inv = c.events.invariant in
    let made = c.in-Ok.made in
    record {
      state = c.in-Ok.ensures.ok ∙ ap (ticks made) inv.state ∙ ticks_more c.events.ticks made start;
      most = omega (arith, inv.most, c.in-Ok.ensures.most, c.events-test.true);
      keys = kept_more start.tasks now.tasks c.leap.new.self.tasks inv.keys c.in-Ok.ensures.keys;
    }
