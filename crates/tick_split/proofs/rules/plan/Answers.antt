use Rattle.std.proofs.Common.{sym, subst}
use Rattle.tick_split.specs.Planning.{IsPlanned}
use Rattle.tick_split.proofs.Spending.{planned_is}
use Rattle.tick_split.proofs.rules.plan.Goals as goal

pub returns : goal.returns
returns c =
    let before = c.args.plan.now in
    subst (IsPlanned before) (sym c.work_out.ensures) (planned_is before c.requires)
