use Rattle.std.proofs.Common.{◌≡◌, ℕ, zero, suc, ◌+◌, ◌-◌, ◌*◌, ◌≤◌, ◌^◌, ◌∙◌, ap, arith, FitsSigned}
use Rattle.std.specs.Prelude.{ℤ, pos, ◌-ℤ◌, ◌*ℤ◌, ◌<ℤ◌}
use Rattle.std.proofs.Math.Nat.{mul-le-mul, mul-suc}
use Rattle.std.proofs.lemmas.Int.{ints, to_z-of_z}
use mir.Syntax.{w128}
use Rattle.cbs_rules.proofs.CallerLemmas.{again, natural_fits, natural_again, product_is}
use Rattle.domain_run.proofs.task_table.applying.left_after_run.Goals as goal

small : (rate ticks : ℕ) → rate ≤ 2 ^ 27 → ticks ≤ 2 ^ 63 → rate * ticks ≤ 2 ^ 90
small rate ticks slow few = omega (arith, mul-le-mul slow few)

-- the last tick takes the rate
last : (rate ticks : ℕ) → rate * ticks ≤ rate * (ticks - 1) + rate
last rate zero = omega arith
last rate (suc ticks) = let one : suc ticks - 1 ≡ ticks = omega arith in rw one (omega (arith, mul-suc rate ticks))

-- a budget that did not end before the last tick goes below zero by less than a rate
stays : (left : ℤ) (rate ticks : ℕ) → FitsSigned w128 left → rate ≤ 2 ^ 27 → pos (rate * (ticks - 1)) <ℤ left → FitsSigned w128 (left -ℤ pos (rate * ticks))
stays left rate ticks fits slow lasted = omega (arith, ints, fits, slow, lasted, last rate ticks)

pub overflow_mul-result : goal.overflow_mul-result
overflow_mul-result c =
    natural_fits _ (c.args.rate * c.args.ticks) (product_is c.from.result c.from-2.result c.args.rate c.args.ticks c.from.ensures c.from-2.ensures c.ranges.rate.fits c.ranges.ticks.fits) (omega (arith, small c.args.rate c.args.ticks c.requires.slow c.requires.few))

-- what the code computes, before it is stored
less : (c : goal.After-from-2) → again c.args.left -ℤ again (again c.from.result *ℤ again c.from-2.result) ≡ c.args.left -ℤ pos (c.args.rate * c.args.ticks)
less c =
    let run = product_is c.from.result c.from-2.result c.args.rate c.args.ticks c.from.ensures c.from-2.ensures c.ranges.rate.fits c.ranges.ticks.fits in
    let used = natural_again _ (c.args.rate * c.args.ticks) run (omega (arith, small c.args.rate c.args.ticks c.requires.slow c.requires.few)) in
    ap (λ (y : ℤ). y -ℤ again (again c.from.result *ℤ again c.from-2.result)) (to_z-of_z w128 c.args.left c.ranges.left) ∙ ap (λ (y : ℤ). c.args.left -ℤ y) used

pub overflow_sub-result : goal.overflow_sub-result
overflow_sub-result c = rw (less c) (stays c.args.left c.args.rate c.args.ticks c.ranges.left c.requires.slow c.requires.lasted)

pub returns : goal.returns
returns c = to_z-of_z w128 _ (overflow_sub-result c) ∙ less c
