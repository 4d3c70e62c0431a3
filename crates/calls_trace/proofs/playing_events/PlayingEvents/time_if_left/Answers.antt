use Rattle.std.proofs.Common.{◌≡◌, ℕ, ◌<◌, ◌≤◌, false, sym, ap, ◌∙◌, subst, arith}
use Rattle.std.specs.Prelude.{All, IsTrue}
use Rattle.std.proofs.lemmas.List.Elements.{All-weaker}
use Rattle.std.proofs.Math.Logic.{∥∥₁_elim}
use denote.Struct.Props.{props}
use Rattle.domain_run.specs.declared.happened.Happened.{Happened}
use Rattle.domain_run.specs.Domain.{Domain}
use Rattle.domain_run.specs.LoggedRun.{IsLoggedUntil, IsLoggedFrom}
use Rattle.domain_run.specs.Sound.{IsSwitch}
use Rattle.domain_run.specs.Switch.{Switch}
use Rattle.domain_run.proofs.CallerLemmas.{calls_later}
use Rattle.switch_text.specs.SlicedEvents.{is_logged_by}
use Rattle.calls_trace.specs.private.PlayingEvents.{calls_to_make, switches_to_make, lines_to_log}
use Rattle.calls_trace.proofs.Pieces.{nothing_left}
use Rattle.calls_trace.proofs.LoggedSoFar.{lines_from, no_lines_left, logged_from_isnt, logged_until_is}
use Rattle.calls_trace.proofs.playing_events.PlayingEvents.time_if_left.Goals as goal

pub returns-then-left-eq0-clause-none : goal.returns-then-left-eq0-clause-none
returns-then-left-eq0-clause-none c =
    let p = c.args.self.now in
    let none = c.if-left-eq0.true in
    let last = c.requires.last c.if-left-eq0.true in
    record {
      switches = nothing_left p.run.logged_run.domain p.left p.calls none last;
      logged = no_lines_left p.run.logged_run.domain p.left p.calls none last;
    }

pub returns-clause-some : goal.returns-clause-some
returns-clause-some c = c.requires.full (omega (arith, c.if-left-eq0.false))

pub returns-clause-past : goal.returns-clause-past
returns-clause-past c =
    let d = c.args.self.now.run.logged_run.domain in
    let at : d.time ≡ c.now.result = sym (c.now.ensures.time ∙ ap (λ (x : Domain). x.time) c.state-state.ensures.state) in
    subst (λ (t : ℕ). All (λ (s : Switch). s.time < t) d.switches) at (All-weaker (IsSwitch d.cpus d.time d.used) (λ (s : Switch). s.time < d.time) (λ s h. h.past) d.switches c.state-state.ensures.domain.traced.switches)

pub returns-clause-logged : goal.returns-clause-logged
returns-clause-logged c =
    let v = c.args.self.now.run.logged_run in
    let at : v.domain.time ≡ c.now.result = sym (c.now.ensures.time ∙ ap (λ (x : Domain). x.time) c.state-state.ensures.state) in
    subst (λ (t : ℕ). All (λ (h : Happened). IsTrue (is_logged_by t h)) v.logged) at (∥∥₁_elim c.args.self.now.past (hlevel props) (λ all. All-weaker (IsLoggedUntil v.domain.time) (λ (h : Happened). IsTrue (is_logged_by v.domain.time h)) (logged_until_is v.domain.time) v.logged all))

pub returns-clause-later : goal.returns-clause-later
returns-clause-later c =
    let p = c.args.self.now in
    let d = p.run.logged_run.domain in
    let at : d.time ≡ c.now.result = sym (c.now.ensures.time ∙ ap (λ (x : Domain). x.time) c.state-state.ensures.state) in
    subst (λ (t : ℕ). All (λ (s : Switch). t ≤ s.time) (switches_to_make p)) at (calls_later d (calls_to_make p))

pub returns-clause-unlogged : goal.returns-clause-unlogged
returns-clause-unlogged c =
    let p = c.args.self.now in
    let d = p.run.logged_run.domain in
    let at : d.time ≡ c.now.result = sym (c.now.ensures.time ∙ ap (λ (x : Domain). x.time) c.state-state.ensures.state) in
    subst (λ (t : ℕ). All (λ (h : Happened). is_logged_by t h ≡ false) (lines_to_log p)) at (All-weaker (IsLoggedFrom d.time) (λ (h : Happened). is_logged_by d.time h ≡ false) (logged_from_isnt d.time) (lines_to_log p) (lines_from d (calls_to_make p)))
