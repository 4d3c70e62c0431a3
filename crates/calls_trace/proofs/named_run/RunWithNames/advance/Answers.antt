use Rattle.std.proofs.Common.{◌≡◌, ℕ, ap, subst, ◌∙◌, arith}
use Rattle.domain_run.specs.Domain.{Domain}
use Rattle.domain_run.specs.Tick.{ticks}
use Rattle.domain_run.specs.Happened.{logged_by_ticks}
use Rattle.domain_run.specs.Log.{HasLogged}
use Rattle.domain_run.proofs.CallerLemmas.{ticks_time}
use Rattle.calls_trace.proofs.Naming.{ticks_used}
use Rattle.calls_trace.proofs.named_run.RunWithNames.advance.Goals as goal

pub returns-clause-state : goal.returns-clause-state
returns-clause-state c =
    let all : c.advance_logged-done.result.ticks ≡ c.args.ticks = omega (arith, c.if-done-ticks.false, c.advance_logged-done.ensures.most) in
    c.advance_logged-done.ensures.state ∙ ap (λ (k : ℕ). ticks k c.args.self.now.state) all

pub returns-clause-time : goal.returns-clause-time
returns-clause-time c = ap (λ (d : Domain). d.time) (returns-clause-state c) ∙ ticks_time c.args.ticks c.args.self.now.state

pub returns-clause-used : goal.returns-clause-used
returns-clause-used c = ap (λ (d : Domain). d.used) (returns-clause-state c) ∙ ticks_used c.args.ticks c.args.self.now.state

pub returns-clause-logged : goal.returns-clause-logged
returns-clause-logged c =
    let all : c.advance_logged-done.result.ticks ≡ c.args.ticks = omega (arith, c.if-done-ticks.false, c.advance_logged-done.ensures.most) in
    subst (λ (k : ℕ). HasLogged c.args.self.now.log (logged_by_ticks k c.args.self.now.state) c.advance_logged-done.new.log) all c.advance_logged-done.ensures.logged
