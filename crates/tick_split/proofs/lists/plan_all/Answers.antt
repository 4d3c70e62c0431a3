use Rattle.std.proofs.Common.{sym, subst}
use Rattle.std.specs.List.{AllZip}
use Rattle.std.proofs.lemmas.Result.{on_ok_weaker}
use Rattle.tick_split.specs.Planning.{IsPlanned}
use Rattle.tick_split.proofs.Spending.{all_planned}
use Rattle.tick_split.proofs.lists.plan_all.Goals as goal

pub returns-clause-planned : goal.returns-clause-planned
returns-clause-planned g c =
    let before = c.args.plans.now in
    on_ok_weaker c.work_all.result (λ is. subst (AllZip IsPlanned before) (sym is) (all_planned before c.requires.plans)) c.work_all.ensures.done
