use Rattle.std.proofs.Common.{◌≤◌, ◌+◌, ◌*◌, ◌/◌, refl, ap, arith}
use Rattle.std.proofs.Math.Nat.{div-mul-le_self, mul-le-mul_right}
use Rattle.domain_run.specs.Domain.{Domain}
use Rattle.domain_run.specs.Passing.{without_switches}
use Rattle.streamed_run.proofs.Again.{period_since, streamed_more_is}
use Rattle.streamed_run.proofs.repeating.pass_periods.Goals as goal

pub stream_again-requires : goal.stream_again-requires
stream_again-requires c =
    let t = c.requires.trail in
    let s = c.args.since in
    let p = c.in-Some.periods in
    let e = c.args.state.now in
    let a = c.args.accounting.now in
    let alike = c.in-Some.ensures.alike t.start t.domain t.written (ap (λ (x : Domain). without_switches x) t.there) in
    let fits : p * s ≤ c.args.left / s * s = mul-le-mul_right s c.in-Some.ensures.most in
    let all = div-mul-le_self c.args.left s in
    let early : e.time + p * s ≤ a.time = omega (arith, c.requires.early, fits, all) in
    record {
      period = period_since s c.args.sight.now c.args.counts.now a e t p c.find.new.self.paces c.now.ensures.domain alike early c.requires.end;
    }

pub returns-clause-streamed : goal.returns-clause-streamed
returns-clause-streamed c =
    let t = c.requires.trail in
    let s = c.args.since in
    let p = c.in-Some.periods in
    let e = c.args.state.now in
    let a = c.args.accounting.now in
    let alike = c.in-Some.ensures.alike t.start t.domain t.written (ap (λ (x : Domain). without_switches x) t.there) in
    streamed_more_is s c.args.sight.now c.args.counts.now a e t p c.find.new.self.paces c.now.ensures.domain alike c.stream_again.new.self
    (c.if-not-stream_again.ensures.made refl _ _ t.streamed)
