use Rattle.std.proofs.Common.{◌≡◌, ℕ, ◌+◌, ◌*◌, ◌/◌, ◌<◌, ◌≤◌, ◌^◌, ap, arith}
use Rattle.std.proofs.Math.Nat.{div-eq_of_lt, div-le_of_le-mul}
use Rattle.cbs_rules.specs.Budget.{below_zero}
use Rattle.cbs_rules.proofs.Widened.{below_small, cast_fits, natural_again, natural_fits, negated, size}
use Rattle.cbs_rules.proofs.rules.postponements.Goals as goal

pub overflow_sub-missing : goal.overflow_sub-missing
overflow_sub-missing c =
    let z = c.args.server.now.left in
    natural_fits _ (below_zero z) (negated z c.requires.spent c.requires.low) (omega (arith, below_small z c.requires.low))

pub overflow_cast-missing : goal.overflow_cast-missing
overflow_cast-missing c =
    let z = c.args.server.now.left in
    let small = below_small z c.requires.low in
    cast_fits _ (below_zero z) (natural_again _ (below_zero z) (negated z c.requires.spent c.requires.low) (omega (arith, small))) (omega (arith, small))

none : (m b : ℕ) → m < b → 1 ≡ m / b + 1
none m b h = omega (arith, div-eq_of_lt h)

pub returns-then-missing-budget-clause-value : goal.returns-then-missing-budget-clause-value
returns-then-missing-budget-clause-value c =
    let z = c.args.server.now.left in
    none (below_zero z) c.args.budget (omega (arith, size z c.requires.spent c.requires.low))

few : (m b : ℕ) → m ≤ 2 ^ 32 → 2 ^ 20 ≤ b → m / b ≤ 4096
few m b most some = let within : m ≤ b * 4096 = omega arith in div-le_of_le-mul b within

pub overflow_add-result : goal.overflow_add-result
overflow_add-result c =
    let z = c.args.server.now.left in
    let is = ap (λ (m : ℕ). m / c.args.budget) (size z c.requires.spent c.requires.low) in
    omega (arith, is, few (below_zero z) c.args.budget (below_small z c.requires.low) c.requires.some)

pub returns-clause-value : goal.returns-clause-value
returns-clause-value c = ap (λ (m : ℕ). m / c.args.budget + 1) (size c.args.server.now.left c.requires.spent c.requires.low)

pub returns-clause-few : goal.returns-clause-few
returns-clause-few c =
    let z = c.args.server.now.left in
    let is = ap (λ (m : ℕ). m / c.args.budget) (size z c.requires.spent c.requires.low) in
    omega (arith, is, few (below_zero z) c.args.budget (below_small z c.requires.low) c.requires.some)
