use Rattle.std.proofs.Common.{◌≡◌, ℕ, ◌*◌, ◌^◌, ◌<◌, ◌≤◌, to_z, of_z, ◌∙◌, arith}
use Rattle.std.specs.Prelude.{ℤ, pos, negsuc, ◌-ℤ◌, unsigned_abs, slice_index}
use Rattle.std.proofs.Math.Nat.{mul-le-mul}
use Rattle.std.proofs.Math.Facts.{to_z-of_z}
use Rattle.std.proofs.lemmas.Int.{ints, fits_signed_from_abs}
use mir.Syntax.{w128}
use Rattle.std.proofs.lemmas.List.{length-set}
use Rattle.jump_run.proofs.Gathering.{left_push, charged_all}
use Rattle.jump_run.proofs.alone.make.Goals as goal

-- what is left is within 127 bits
short : (z : ℤ) (left spent : ℕ) → z ≡ pos left -ℤ pos spent → left ≤ 2 ^ 52 → spent ≤ 2 ^ 69 → unsigned_abs z < 2 ^ 127
short (pos n) left spent e h k = omega (arith, ints, e, h, k)
short (negsuc n) left spent e h k = omega (arith, ints, e, h, k)

pub loop-i-init : goal.loop-i-init
loop-i-init g c = record {
  gathered = c.gather-span.ensures.each;
  len = c.gather-span.ensures.len;
  each = λ j within. absurd (omega arith);
}

pub left_after-requires-clause-high : goal.left_after-requires-clause-high
left_after-requires-clause-high g c = c.loop-i.invariant.gathered.high c.loop-i.i (omega arith)

pub left_after-requires-clause-slow : goal.left_after-requires-clause-slow
left_after-requires-clause-slow g c = c.loop-i.invariant.gathered.slow c.loop-i.i (omega arith)

pub loop-i-preserved : goal.loop-i-preserved
loop-i-preserved g c =
    let l = c.loop-i in
    let g = l.room in
    let k = c.gather-span.result.ticks in
    let are = l.invariant.gathered in
    let product : slice_index g.rates l.i * k ≤ 2 ^ 27 * 2 ^ 42 = mul-le-mul (are.slow l.i (omega arith)) c.gather-span.ensures.short in
    let value : to_z w128 (of_z w128 c.left_after.result) ≡ c.left_after.result = to_z-of_z {w = w128} {z = c.left_after.result} (fits_signed_from_abs w128 c.left_after.result (short c.left_after.result (slice_index g.lefts l.i) (slice_index g.rates l.i * k) c.left_after.ensures (are.high l.i (omega arith)) product)) in
    record {
      gathered = are;
      len = length-set g.budgets l.i _ ∙ l.invariant.len;
      each = left_push g.lefts g.rates k l.i g.budgets _ (omega arith) (value ∙ c.left_after.ensures) l.invariant.each;
    }

pub returns-clause-charged : goal.returns-clause-charged
returns-clause-charged g c =
    let g = c.gather-span in
    let r = c.loop-i.room in
    charged_all c.args.state.now g.result.ticks g.result.count r.lefts r.rates r.budgets c.loop-i.invariant.gathered g.ensures.many (omega (arith, g.ensures.few, c.loop-i.invariant.len)) (λ i within. c.loop-i.invariant.each i (omega arith))
