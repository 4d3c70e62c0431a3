use Rattle.std.proofs.Common.{◌≡◌, ◌≤◌, ◌+◌, ◌∙◌, Option, List, refl, sym, ap, subst, arith}
use Rattle.std.specs.Prelude.{IfSome}
use Rattle.domain_run.specs.declared.happened.Happened.{Happened}
use Rattle.domain_run.specs.Domain.{Domain}
use Rattle.domain_run.specs.Happened.{logged_by_ticks}
use Rattle.domain_run.specs.Keys.{AreKept}
use Rattle.domain_run.specs.Tick.{ticks}
use Rattle.domain_run.proofs.CallerLemmas.{kept_itself, kept_more, ticks_kept, ticks_time}
use Rattle.run_figures.specs.Accounting.{AccountingView}
use Rattle.streamed_run.specs.Streamed.{IsStreamedUpTo}
use Rattle.streamed_run.specs.private.Trail.{IsTrail}
use Rattle.streamed_run.proofs.Again.{seen_after}
use Rattle.streamed_run.proofs.Pieces.{first_streamed, streamed_seen, streamed_up_to, still_up_to}
use Rattle.domain_run.specs.Log.{LogView}
use Rattle.streamed_run.proofs.repeating.advance_streamed_in_periods.Goals as goal
use Rattle.streamed_run.proofs.repeating.advance_streamed_in_periods.Goals.{else-steps-test, then-steps-test+in_default}

pub stream-requires : goal.stream-requires
stream-requires c = record { next = c.requires.up_to.next }

pub steps-init : goal.steps-init
steps-init c =
    let d = c.args.state.now in
    let trail = c.open_trail-trail.result in
    record {
      streamed = first_streamed d c.stream.new.state c.args.accounting.now c.stream.new.accounting c.args.log.now.happened c.stream.new.log c.now.ensures.domain c.requires.up_to c.stream.ensures.streamed c.stream.ensures.state
          (c.stream.ensures.wanted ∙ c.requires.wanted) c.stream.ensures.empty;
      most = omega arith;
      keys = subst (λ (x : Domain). AreKept d.tasks x.tasks) (sym c.stream.ensures.state) (kept_itself d.tasks);
      knows = subst (λ (o : Option AccountingView). IfSome o (λ counts. IsTrail trail.since trail.sight counts c.stream.new.state c.stream.new.accounting)) (sym c.open_trail-trail.ensures) tt;
    }

pub next_ticks-requires-clause-early : goal.next_ticks-requires-clause-early
next_ticks-requires-clause-early c =
    let inv = c.steps.invariant in
    let time = ap (λ (x : Domain). x.time) inv.streamed.state ∙ ticks_time c.steps.ticks c.args.state.now in
    let end = ap (λ (x : AccountingView). x.time) inv.streamed.streamed in
    omega (arith, time, end, c.requires.early, inv.most, c.steps-test.true)

pub next_ticks-requires-clause-up_to : goal.next_ticks-requires-clause-up_to
next_ticks-requires-clause-up_to c =
    let inv = c.steps.invariant in
    let now : c.args.state.now.time + c.steps.ticks ≤ c.args.accounting.now.time = omega (arith, c.requires.early, inv.most) in
    subst (λ (hs : List Happened). IsStreamedUpTo c.steps.state hs c.steps.accounting) inv.streamed.empty
    (streamed_up_to c.args.accounting.now c.args.log.now.happened c.steps.ticks c.args.state.now c.steps.state c.steps.accounting c.steps.log c.now.ensures.domain c.requires.up_to now c.requires.end inv.streamed)

pub steps-preserved : goal.steps-preserved
steps-preserved c =
    let inv = c.steps.invariant in
    let d = c.args.state.now in
    let k = c.steps.ticks in
    let e = c.steps.state in
    let m = c.in-Ok.made in
    let next = c.next_ticks.new in
    let is = c.now-in-steps.ensures.domain in
    record {
      streamed = streamed_seen c.args.accounting.now c.args.log.now.happened k m d e (ticks m e) next.state c.steps.accounting next.accounting (logged_by_ticks m e) c.steps.log next.log (seen_after m e is) inv.streamed refl refl c.in-Ok.ensures.streamed c.in-Ok.ensures.state
          c.in-Ok.ensures.wanted c.in-Ok.ensures.empty;
      most = omega (arith, c.in-Ok.ensures.most, c.steps-test.true);
      keys = kept_more d.tasks e.tasks next.state.tasks inv.keys (subst (λ (x : Domain). AreKept e.tasks x.tasks) (sym c.in-Ok.ensures.state) (ticks_kept m e is.steady.numbered));
      knows = c.in-Ok.ensures.knows;
    }

-- said of an equal domain, list and accounting
still : (d e : Domain) (hs gs : List Happened) (a b : AccountingView) → e ≡ d → gs ≡ hs → b ≡ a → IsStreamedUpTo d hs a → IsStreamedUpTo e gs b
still d e hs gs a b same alike streamed is = still_up_to d e hs gs b same alike (subst (λ (x : AccountingView). IsStreamedUpTo d hs x) (sym streamed) is)

-- if room is refused, nothing has changed since the ticks before
pub returns-clause-up_to : goal.returns-clause-up_to
returns-clause-up_to c =
    let inv = c.steps.invariant in
    let now : c.args.state.now.time + c.steps.ticks ≤ c.args.accounting.now.time = omega (arith, c.requires.early, inv.most) in
    let here = streamed_up_to c.args.accounting.now c.args.log.now.happened c.steps.ticks c.args.state.now c.steps.state c.steps.accounting c.steps.log c.now.ensures.domain c.requires.up_to now c.requires.end inv.streamed in
    elim c.steps-test.branch [
      | else-steps-test w ↦ still c.steps.state c.steps-test.state c.steps.log.happened c.steps-test.log.happened c.steps.accounting c.steps-test.accounting w.state-is (ap (λ (x : LogView). x.happened) w.log-is) w.accounting-is here
      | then-steps-test+in_default w ↦ still c.steps.state c.steps-test.state c.steps.log.happened c.steps-test.log.happened c.steps.accounting c.steps-test.accounting
          (w.state-is ∙ w.in_default.ensures.same_state)
          (ap (λ (x : LogView). x.happened) w.log-is ∙ w.in_default.ensures.empty ∙ sym inv.streamed.empty)
          (w.accounting-is ∙ w.in_default.ensures.same_streamed)
          here
    ]
