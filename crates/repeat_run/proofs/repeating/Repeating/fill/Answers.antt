use Rattle.std.proofs.Common.{◌≡◌, ℕ, ◌+◌, ◌-◌, ◌≤◌, sym, ap, subst, ◌∙◌, arith}
use Rattle.std.specs.Prelude.{◌++◌}
use Rattle.domain_run.specs.Domain.{Domain}
use Rattle.domain_run.specs.Coming.{switches_to_come}
use Rattle.domain_run.specs.Keys.{AreKept}
use Rattle.domain_run.specs.Sound.{IsDomain}
use Rattle.domain_run.specs.Tick.{ticks}
use Rattle.domain_run.proofs.CallerLemmas.{ticks_kept, ticks_time, ticks_then, to_come_after, to_come_later}
use Rattle.repeat_run.proofs.repeating.Repeating.fill.Goals as goal

-- what is left goes down, and what was made up
made_more : (n left made : ℕ) → left ≤ n → made ≤ left → n - left + made ≡ n - (left - made)
made_more n left made fits within = omega (arith, fits, within)

kept_so_far : (made : ℕ) (d e : Domain) → IsDomain d → e ≡ ticks made d → AreKept d.tasks e.tasks
kept_so_far made d e is same = subst (λ (x : Domain). AreKept d.tasks x.tasks) (sym same) (ticks_kept made d is.steady.numbered)

-- what is made and what is to come is the whole
to_come_more : (n made left : ℕ) (d e : Domain) → e ≡ ticks made d → made + left ≡ n → e.switches ++ switches_to_come left e ≡ d.switches ++ switches_to_come n d
to_come_more n made left d e is sum =
    sym (to_come_after left e) ∙ ap (λ (x : Domain). (ticks left x).switches) is ∙ ap (λ (x : Domain). x.switches) (ticks_then made left d)
    ∙ ap (λ (k : ℕ). (ticks k d).switches) sum ∙ to_come_after n d

pub steps-init : goal.steps-init
steps-init c =
    let none : 0 ≡ c.args.n - c.args.n = omega arith in
    record {
      state = ap (λ k. ticks k c.args.self.now) none;
      most = omega arith;
    }

pub go-made-requires-clause-early : goal.go-made-requires-clause-early
go-made-requires-clause-early c =
    let inv = c.steps.invariant in
    let time = ap (λ (d : Domain). d.time) inv.state ∙ ticks_time (c.args.n - c.steps.left) c.args.self.now in
    omega (arith, time, inv.most, c.requires)

pub steps-preserved : goal.steps-preserved
steps-preserved c =
    let start = c.args.self.now in
    let inv = c.steps.invariant in
    let go = c.go-made in
    record {
      state = go.ensures.made ∙ ap (ticks go.result) inv.state ∙ ticks_then (c.args.n - c.steps.left) go.result start
          ∙ ap (λ k. ticks k start) (made_more c.args.n c.steps.left go.result inv.most go.ensures.most);
      most = omega (arith, inv.most);
    }

pub returns-then-made-eq0 : goal.returns-then-made-eq0
returns-then-made-eq0 c =
    let start = c.args.self.now in
    let inv = c.steps.invariant in
    let go = c.go-made in
    let same : go.new.self ≡ ticks (c.args.n - c.steps.left) start = go.ensures.made ∙ ap (λ k. ticks k c.steps.self) c.if-made-eq0.true ∙ inv.state in
    record {
      made = same;
      most = inv.most;
      full = λ more. go.ensures.full c.if-made-eq0.true;
      more = to_come_more c.args.n (c.args.n - c.steps.left) c.steps.left start go.new.self same (omega (arith, inv.most));
      later = to_come_later c.steps.left go.new.self;
      keys = kept_so_far (c.args.n - c.steps.left) start go.new.self (subst IsDomain c.self.view_is c.state.ensures.domain) same;
    }

pub returns : goal.returns
returns c =
    let start = c.args.self.now in
    let now = c.steps.self in
    let inv = c.steps.invariant in
    let none : c.steps.left ≡ 0 = omega (arith, c.steps-test.false) in
    let same : now ≡ ticks (c.args.n - 0) start = inv.state ∙ ap (λ k. ticks (c.args.n - k) start) none in
    record {
      made = same;
      most = omega arith;
      full = λ more. absurd (omega (arith, more));
      more = to_come_more c.args.n (c.args.n - 0) 0 start now same (omega arith);
      later = to_come_later 0 now;
      keys = kept_so_far (c.args.n - 0) start now (subst IsDomain c.self.view_is c.state.ensures.domain) same;
    }
