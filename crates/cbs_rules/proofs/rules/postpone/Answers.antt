use Rattle.std.proofs.Common.{◌≡◌, ℕ, ◌*◌, ◌<◌, ◌≤◌, ◌^◌, ◌∙◌, ap, pos, neg_ℤ, ◌≤ℤ◌, ℤ, ◌+ℤ◌, ◌*ℤ◌, arith, rules}
use Rattle.std.specs.Int.{w128}
use Rattle.std.proofs.Math.Nat.{mul-le-mul}
use Rattle.std.proofs.lemmas.Int.{ints, to_z-of_z}
use Rattle.cbs_rules.proofs.Widened.{again, natural_fits, product_is, sum_is, sum_fits}
use Rattle.cbs_rules.proofs.rules.postpone.Goals as goal

small : (times budget : ℕ) → times ≤ 2 ^ 13 → budget ≤ 2 ^ 52 → times * budget < 2 ^ 100
small times budget few most = omega (arith, mul-le-mul few most)

pub overflow_mul-result : goal.overflow_mul-result
overflow_mul-result c =
    let below = small c.args.times c.budget_of-budget.result c.requires.few c.budget_of-budget.ensures.most in
    natural_fits _ (c.args.times * c.budget_of-budget.result) (product_is c.from.result c.from-2.result c.args.times c.budget_of-budget.result c.from.ensures c.from-2.ensures c.ranges.times.fits c.budget_of-budget.type_inv) (omega (arith, below))

low : (z : ℤ) → neg_ℤ (pos (2 ^ 32)) ≤ℤ z → neg_ℤ (pos (2 ^ 63)) ≤ℤ z
low z h = omega (arith, ints)

high : (z : ℤ) → z ≤ℤ pos 0 → z ≤ℤ pos (2 ^ 63)
high z h = omega (arith, ints)

-- what the code computes, before it is stored
more : (c : goal.After-struct_told-1) → again c.args.server.left +ℤ again (again c.from.result *ℤ again c.from-2.result) ≡ c.args.server.left +ℤ pos (c.args.times * c.budget_of-budget.result)
more c =
    let added = product_is c.from.result c.from-2.result c.args.times c.budget_of-budget.result c.from.ensures c.from-2.ensures c.ranges.times.fits c.budget_of-budget.type_inv in
    sum_is c.args.server.left _ (c.args.times * c.budget_of-budget.result) (low c.args.server.left c.requires.low) (high c.args.server.left c.requires.spent) added (small c.args.times c.budget_of-budget.result c.requires.few c.budget_of-budget.ensures.most)

pub overflow_add-result : goal.overflow_add-result
overflow_add-result c = sum_fits c.args.server.left _ (c.args.times * c.budget_of-budget.result) (low c.args.server.left c.requires.low) (high c.args.server.left c.requires.spent) (more c) (small c.args.times c.budget_of-budget.result c.requires.few c.budget_of-budget.ensures.most)

pub returns-clause-left : goal.returns-clause-left
returns-clause-left c =
    to_z-of_z w128 _ (overflow_add-result c) ∙ more c ∙ ap (λ (b : ℕ). c.args.server.left +ℤ pos (c.args.times * b)) c.budget_of-budget.ensures.value

pub returns-clause-deadline : goal.returns-clause-deadline
returns-clause-deadline c = search rules
