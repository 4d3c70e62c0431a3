use Rattle.std.proofs.Common.{◌≡◌, ℕ, ◌<◌, ◌≤◌, sym, ap, ◌∙◌, subst, arith}
use Rattle.std.specs.Prelude.{All}
use Rattle.std.proofs.lemmas.List.Elements.{All-weaker}
use Rattle.domain_run.specs.Domain.{Domain}
use Rattle.domain_run.specs.Sound.{IsSwitch}
use Rattle.domain_run.specs.Switch.{Switch}
use Rattle.domain_run.proofs.CallerLemmas.{calls_later}
use Rattle.calls_trace.specs.private.Playing.{calls_left, rest_of}
use Rattle.calls_trace.proofs.Pieces.{nothing_left}
use Rattle.calls_trace.proofs.playing.Playing.time_if_left.Goals as goal

pub returns-then-left-eq0-clause-none : goal.returns-then-left-eq0-clause-none
returns-then-left-eq0-clause-none c =
    let p = c.args.self.now in
    nothing_left p.run.domain p.left p.calls c.if-left-eq0.true (c.requires.last c.if-left-eq0.true)

pub returns-clause-some : goal.returns-clause-some
returns-clause-some c = c.requires.full (omega (arith, c.if-left-eq0.false))

pub returns-clause-past : goal.returns-clause-past
returns-clause-past c =
    let d = c.args.self.now.run.domain in
    let at : d.time ≡ c.now.result = sym (c.now.ensures.time ∙ ap (λ (x : Domain). x.time) c.state-state.ensures.state) in
    subst (λ (t : ℕ). All (λ (s : Switch). s.time < t) d.switches) at (All-weaker (IsSwitch d.cpus d.time d.used) (λ (s : Switch). s.time < d.time) (λ s h. h.past) d.switches c.state-state.ensures.domain.traced.switches)

pub returns-clause-later : goal.returns-clause-later
returns-clause-later c =
    let p = c.args.self.now in
    let d = p.run.domain in
    let at : d.time ≡ c.now.result = sym (c.now.ensures.time ∙ ap (λ (x : Domain). x.time) c.state-state.ensures.state) in
    subst (λ (t : ℕ). All (λ (s : Switch). t ≤ s.time) (rest_of p)) at (calls_later d (calls_left p))
