use Rattle.std.proofs.Common.{◌≡◌, ℕ, ◌*◌, ◌<◌, ◌≤◌, ◌^◌, ◌∙◌, ap, pos, ℤ, ◌-ℤ◌, ◌*ℤ◌, arith}
use Rattle.std.specs.Int.{w128}
use Rattle.std.proofs.Math.Nat.{mul-le-mul}
use Rattle.std.proofs.lemmas.Int.{to_z-of_z}
use Rattle.cbs_rules.specs.declared.server.Server.{Server}
use Rattle.cbs_rules.proofs.Widened.{again, natural_fits, product_is, difference_is, difference_fits}
use Rattle.cbs_rules.proofs.rules.charge.Goals as goal

small : (rate ticks : ℕ) → rate ≤ 2 ^ 32 → ticks ≤ 2 ^ 42 → rate * ticks < 2 ^ 100
small rate ticks slow few = omega (arith, mul-le-mul slow few)

pub overflow_mul-result : goal.overflow_mul-result
overflow_mul-result c =
    let below = small c.args.rate c.args.ticks c.requires.slow c.requires.few in
    natural_fits _ (c.args.rate * c.args.ticks) (product_is c.from.result c.from-2.result c.args.rate c.args.ticks c.from.ensures c.from-2.ensures c.ranges.rate.fits c.ranges.ticks.fits) (omega (arith, below))

-- what the code computes, before it is stored
less : (c : goal.After-struct_told-1) → again c.args.server.left -ℤ again (again c.from.result *ℤ again c.from-2.result) ≡ c.args.server.left -ℤ pos (c.args.rate * c.args.ticks)
less c =
    let spent = product_is c.from.result c.from-2.result c.args.rate c.args.ticks c.from.ensures c.from-2.ensures c.ranges.rate.fits c.ranges.ticks.fits in
    difference_is c.args.server.left _ (c.args.rate * c.args.ticks) c.requires.low c.requires.high spent (small c.args.rate c.args.ticks c.requires.slow c.requires.few)

pub overflow_sub-result : goal.overflow_sub-result
overflow_sub-result c = difference_fits c.args.server.left _ (c.args.rate * c.args.ticks) c.requires.low c.requires.high (less c) (small c.args.rate c.args.ticks c.requires.slow c.requires.few)

pub returns : goal.returns
returns c =
    let made : ℤ → Server = λ z. record { deadline = c.args.server.deadline; left = z } in
    ap made (to_z-of_z w128 _ (overflow_sub-result c) ∙ less c)
