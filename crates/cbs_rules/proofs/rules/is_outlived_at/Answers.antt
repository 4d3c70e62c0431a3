use Rattle.std.proofs.Common.{◌≡◌, ℕ, ◌*◌, ◌-◌, ◌<◌, ◌≤◌, ◌^◌, ◌∙◌, ap, pos, ℤ, ◌*ℤ◌, arith}
use Rattle.std.specs.Int.{w128}
use Rattle.std.specs.Prelude.{int_lt}
use Rattle.std.proofs.Math.Nat.{mul-le-mul}
use Rattle.std.proofs.lemmas.Bool.{le-ltb}
use Rattle.std.proofs.lemmas.Int.{to_z-of_z}
use Rattle.attr_check.specs.ParamsView.{ParamsView}
use Rattle.cbs_rules.specs.Budget.{budget}
use Rattle.cbs_rules.specs.Serving.{overflows}
use Rattle.cbs_rules.proofs.Widened.{again, natural_fits, product_is, scaled, scaled_fits}
use Rattle.cbs_rules.proofs.rules.is_outlived_at.Goals as goal

short : (some until deadline : ℕ) → some ≤ 2 ^ 52 → until ≤ deadline → deadline < 2 ^ 48 → some * until < 2 ^ 127
short some until deadline most within early = let near : until ≤ 2 ^ 48 = omega arith in omega (arith, mul-le-mul most near)

pub overflow_mul-share : goal.overflow_mul-share
overflow_mul-share c =
    let until = c.args.deadline - c.args.time in
    natural_fits _ (c.budget_of.result * until) (product_is c.from-budget.result c.from.result c.budget_of.result until c.from-budget.ensures c.from.ensures c.budget_of.type_inv (omega arith)) (short c.budget_of.result until c.args.deadline c.budget_of.ensures.most (omega arith) c.requires.early.1)

period_of : (c : goal.After-from-2) → c.from-2.result ≡ pos c.args.params.now.period
period_of c = c.from-2.ensures ∙ ap (λ (v : ParamsView). pos v.period) c.params.view_is

right : (c : goal.After-from-2) → again c.args.left *ℤ again c.from-2.result ≡ c.args.left *ℤ pos c.args.params.now.period
right c = scaled c.args.left c.from-2.result c.args.params.now.period c.requires.low c.requires.high (period_of c) (omega (arith, c.budget_of.ensures.ordered.short))

pub overflow_mul-result : goal.overflow_mul-result
overflow_mul-result c = scaled_fits c.args.left _ c.args.params.now.period c.requires.low c.requires.high (right c) c.budget_of.ensures.ordered.short

compared : (p : ParamsView) (time deadline : ℕ) (left x y : ℤ) → time ≤ deadline → x ≡ pos (budget p * (deadline - time)) → y ≡ left *ℤ pos p.period → int_lt x y ≡ overflows p time deadline left
compared p time deadline left x y h e f = rw (e, f, le-ltb deadline time h)

pub returns-clause-value : goal.returns-clause-value
returns-clause-value c =
    let until = c.args.deadline - c.args.time in
    let share = product_is c.from-budget.result c.from.result c.budget_of.result until c.from-budget.ensures c.from.ensures c.budget_of.type_inv (omega arith) in
    let fits = natural_fits _ (c.budget_of.result * until) share (short c.budget_of.result until c.args.deadline c.budget_of.ensures.most (omega arith) c.requires.early.1) in
    compared c.args.params.now c.args.time c.args.deadline c.args.left _ _ c.if-deadline-time.false (to_z-of_z w128 _ fits ∙ share ∙ ap (λ (b : ℕ). pos (b * until)) c.budget_of.ensures.value) (to_z-of_z w128 _ (overflow_mul-result c) ∙ right c)
