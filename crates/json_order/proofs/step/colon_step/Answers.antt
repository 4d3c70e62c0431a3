use Rattle.std.proofs.Common.{arith}
use Rattle.std.proofs.lemmas.Grind.{common_steps}
use Rattle.json_order.proofs.step.colon_step.Goals as goal

pub returns-in_err-push-in-58-clause-ok : goal.returns-in_err-push-in-58-clause-ok
returns-in_err-push-in-58-clause-ok c = grind (arith, common_steps)

pub returns-in_err-push-in-58-clause-err : goal.returns-in_err-push-in-58-clause-err
returns-in_err-push-in-58-clause-err c = grind (arith, common_steps)

pub returns-in_ok-push-in-58-clause-ok : goal.returns-in_ok-push-in-58-clause-ok
returns-in_ok-push-in-58-clause-ok c = grind (arith, common_steps)

pub returns-in_ok-push-in-58-clause-err : goal.returns-in_ok-push-in-58-clause-err
returns-in_ok-push-in-58-clause-err c = grind (arith, common_steps)

pub returns-in_default-clause-ok : goal.returns-in_default-clause-ok
returns-in_default-clause-ok c = grind (arith, common_steps)

pub returns-in_default-clause-err : goal.returns-in_default-clause-err
returns-in_default-clause-err c = grind (arith, common_steps)

pub returns-in-32-clause-ok : goal.returns-in-32-clause-ok
returns-in-32-clause-ok c = grind (arith, common_steps)

pub returns-in-32-clause-err : goal.returns-in-32-clause-err
returns-in-32-clause-err c = grind (arith, common_steps)
