use Rattle.std.proofs.Common.{◌≡◌, ℕ, ◌^◌, ◌<◌, ◌≤◌, to_z, of_z, true, false, refl, sym, ◌∙◌, arith}
use Rattle.std.specs.Prelude.{ℤ, pos, negsuc, ◌-ℤ◌, ◌<ℤ◌, ◌≤ℤ◌, unsigned_abs}
use Rattle.std.proofs.Math.Facts.{to_z-of_z}
use Rattle.std.proofs.lemmas.Int.{ints, fits_signed_from_abs}
use mir.Syntax.{w128}
use Rattle.std.proofs.lemmas.List.{length-set}
use Rattle.domain_run.proofs.Charged.{one_tick, charged_push, charged_whole, charged_all_now}
use Rattle.domain_run.proofs.charging.charge.Goals as goal

-- what is left is within 127 bits
short : (z left : ℤ) (rate : ℕ) → z ≡ left -ℤ pos rate → pos 0 <ℤ left → left ≤ℤ pos (2 ^ 52) → rate ≤ 2 ^ 27 → unsigned_abs z < 2 ^ 127
short (pos n) left rate e some high slow = omega (arith, ints, e, some, high, slow)
short (negsuc n) left rate e some high slow = omega (arith, ints, e, some, high, slow)

pub loop-i-preserved : goal.loop-i-preserved
loop-i-preserved c =
    let l = c.loop-i in
    let d = c.args.state.now in
    let r = c.in-Some.runner in
    let z = c.left_after.result in
    let value : to_z w128 (of_z w128 z) ≡ z = to_z-of_z {w = w128} {z = z} (fits_signed_from_abs w128 z (short z r.left c.rate.result c.left_after.ensures c.in-Some.ensures.lifted c.in-Some.ensures.high c.rate.ensures.slow)) in
    record {
      within = let there = c.in-Some.ensures.there.0 refl in omega (arith, there);
      few = λ some. c.in-Some.ensures.few;
      len = length-set l.budgets l.i _ ∙ l.invariant.len;
      each = charged_push d l.i l.budgets r _ (omega (arith, l.invariant.len, c.loop-i-test.true)) (sym c.in-Some.ensures.running) (one_tick d r c.rate.result _ c.in-Some.ensures.some c.in-Some.ensures.lifted c.rate.ensures.rate (value ∙ c.left_after.ensures)) l.invariant.each;
    }

pub returns-in_default-clause-charged : goal.returns-in_default-clause-charged
returns-in_default-clause-charged c =
    let l = c.loop-i in
    charged_all_now c.args.state.now l.i l.budgets l.invariant.each l.invariant.within (λ less. let no_one : false ≡ true = c.in_default.ensures.there.1 less in absurd cc) (omega (arith, l.invariant.len))

pub returns-clause-charged : goal.returns-clause-charged
returns-clause-charged c = charged_whole c.args.state.now 64 c.loop-i.budgets (λ k r h is. c.loop-i.invariant.each k r (omega (arith, h, c.loop-i-test.false)) is) (omega (arith, c.loop-i-test.false, c.loop-i.auto.i-end, c.loop-i.invariant.within, c.loop-i.invariant.few (omega (arith, c.loop-i-test.false)))) (omega (arith, c.loop-i.invariant.len))
