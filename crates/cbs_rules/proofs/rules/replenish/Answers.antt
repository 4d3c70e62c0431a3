use Rattle.std.proofs.Common.{◌<◌, ◌≡◌, ◌+◌, ◌/◌, ◌∙◌, ap, arith}
use Rattle.std.proofs.lemmas.Int.{ints}
use Rattle.cbs_rules.specs.Budget.{budget, below_zero}
use Rattle.cbs_rules.proofs.Postponing.{is_replenished, lifted_left, near_deadline, steps_of}
use Rattle.cbs_rules.proofs.rules.replenish.Goals as goal

times_are : (c : goal.After-postpone) → c.postponements-times.result ≡ steps_of c.args.params.now c.args.server
times_are c = c.postponements-times.ensures.value ∙ ap (λ b. below_zero c.args.server.left / b + 1) c.budget_of.ensures.value

some_budget : (c : goal.After-postpone) → 0 < budget c.args.params.now
some_budget c = omega (arith, c.budget_of.ensures.value, c.budget_of.ensures.some)

pub returns-clause-value : goal.returns-clause-value
returns-clause-value c = is_replenished c.args.params.now c.args.server c.postpone.result c.postponements-times.result (some_budget c) c.requires.spent (times_are c) c.postpone.ensures.deadline c.postpone.ensures.left

pub returns-clause-lifted : goal.returns-clause-lifted
returns-clause-lifted c = rw c.postpone.ensures.left (lifted_left (budget c.args.params.now) c.postponements-times.result c.args.server.left (some_budget c) c.requires.spent (times_are c)).0

pub returns-clause-high : goal.returns-clause-high
returns-clause-high c =
    let within = (lifted_left (budget c.args.params.now) c.postponements-times.result c.args.server.left (some_budget c) c.requires.spent (times_are c)).1 in
    rw c.postpone.ensures.left (omega (arith, ints, within, c.budget_of.ensures.value, c.budget_of.ensures.most))

pub returns-clause-near : goal.returns-clause-near
returns-clause-near c = rw c.postpone.ensures.deadline (near_deadline c.args.server.deadline c.postponements-times.result c.args.params.now.period c.requires.dated c.postponements-times.ensures.few c.budget_of.ensures.ordered.short)
