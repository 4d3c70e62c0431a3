use Rattle.std.proofs.Common.{◌≡◌, ℕ, ◌+◌, ◌-◌, ◌≤◌, ap, ◌∙◌, arith}
use Rattle.domain_run.specs.Domain.{Domain}
use Rattle.domain_run.specs.Passing.{without_switches}
use Rattle.domain_run.specs.Tick.{ticks}
use Rattle.domain_run.proofs.CallerLemmas.{ticks_time}
use Rattle.reply_text.proofs.Forgetting.{forgotten_more}
use Rattle.reply_text.proofs.making.advance.Goals as goal

-- what is left goes down, and what was made up
made_more : (n left made : ℕ) → left ≤ n → made ≤ left → n - left + made ≡ n - (left - made)
made_more n left made fits within = omega (arith, fits, within)

time_at : (d e : Domain) (k : ℕ) → e ≡ without_switches (ticks k d) → e.time ≡ d.time + k
time_at d e k is = ap (λ (x : Domain). x.time) is ∙ ticks_time k d

pub pieces-init : goal.pieces-init
pieces-init c =
    let none : 0 ≡ c.args.ticks - c.args.ticks = omega arith in
    record {
      domain = c.forget_switches.ensures ∙ ap (λ k. without_switches (ticks k c.args.domain.now)) none;
      most = omega arith;
    }

pub advance-left-requires : goal.advance-left-requires
advance-left-requires c =
    let inv = c.pieces.invariant in
    omega (arith, time_at c.args.domain.now c.pieces.domain (c.args.ticks - c.pieces.left) inv.domain, inv.most, c.requires)

pub pieces-preserved : goal.pieces-preserved
pieces-preserved c =
    let inv = c.pieces.invariant in
    let start = c.args.domain.now in
    let k = c.args.ticks - c.pieces.left in
    let m = c.advance-left.result in
    record {
      domain = c.forget_switches-in-pieces.ensures ∙ ap without_switches c.advance-left.ensures.ticks ∙ forgotten_more k m start c.pieces.domain inv.domain
          ∙ ap (λ n. without_switches (ticks n start)) (made_more c.args.ticks c.pieces.left m inv.most c.advance-left.ensures.most);
      most = omega (arith, inv.most);
    }

pub returns-clause-domain : goal.returns-clause-domain
returns-clause-domain c =
    let inv = c.pieces.invariant in
    let all : c.args.ticks - c.pieces.left ≡ c.args.ticks = omega (arith, c.pieces-test.false) in
    inv.domain ∙ ap (λ k. without_switches (ticks k c.args.domain.now)) all

pub returns-clause-time : goal.returns-clause-time
returns-clause-time c = time_at c.args.domain.now c.pieces.domain c.args.ticks (returns-clause-domain c)
