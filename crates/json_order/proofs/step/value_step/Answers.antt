use Rattle.std.proofs.Common.{arith}
use Rattle.std.proofs.lemmas.Grind.{common_steps}
use Rattle.json_order.proofs.step.value_step.Goals as goal

pub returns-in_err-one-in-45-clause-ok : goal.returns-in_err-one-in-45-clause-ok
returns-in_err-one-in-45-clause-ok c = grind (arith, common_steps)

pub returns-in_err-one-in-45-clause-err : goal.returns-in_err-one-in-45-clause-err
returns-in_err-one-in-45-clause-err c = grind (arith, common_steps)

pub returns-in_err-one-in-0-clause-ok : goal.returns-in_err-one-in-0-clause-ok
returns-in_err-one-in-0-clause-ok c = grind (arith, common_steps)

pub returns-in_err-one-in-0-clause-err : goal.returns-in_err-one-in-0-clause-err
returns-in_err-one-in-0-clause-err c = grind (arith, common_steps)

pub returns-in_err-one-in-1-to-9-clause-ok : goal.returns-in_err-one-in-1-to-9-clause-ok
returns-in_err-one-in-1-to-9-clause-ok c = grind (arith, common_steps)

pub returns-in_err-one-in-1-to-9-clause-err : goal.returns-in_err-one-in-1-to-9-clause-err
returns-in_err-one-in-1-to-9-clause-err c = grind (arith, common_steps)

pub returns-in-n-clause-ok : goal.returns-in-n-clause-ok
returns-in-n-clause-ok c = grind (arith, common_steps)

pub returns-in-n-clause-err : goal.returns-in-n-clause-err
returns-in-n-clause-err c = grind (arith, common_steps)

pub returns-in-t-clause-ok : goal.returns-in-t-clause-ok
returns-in-t-clause-ok c = grind (arith, common_steps)

pub returns-in-t-clause-err : goal.returns-in-t-clause-err
returns-in-t-clause-err c = grind (arith, common_steps)

pub returns-in-f-clause-ok : goal.returns-in-f-clause-ok
returns-in-f-clause-ok c = grind (arith, common_steps)

pub returns-in-f-clause-err : goal.returns-in-f-clause-err
returns-in-f-clause-err c = grind (arith, common_steps)

pub returns-in-34-clause-ok : goal.returns-in-34-clause-ok
returns-in-34-clause-ok c = grind (arith, common_steps)

pub returns-in-34-clause-err : goal.returns-in-34-clause-err
returns-in-34-clause-err c = grind (arith, common_steps)

pub returns-in_ok-one-in-45-clause-ok : goal.returns-in_ok-one-in-45-clause-ok
returns-in_ok-one-in-45-clause-ok c = grind (arith, common_steps)

pub returns-in_ok-one-in-45-clause-err : goal.returns-in_ok-one-in-45-clause-err
returns-in_ok-one-in-45-clause-err c = grind (arith, common_steps)

pub returns-in_ok-one-in-0-clause-ok : goal.returns-in_ok-one-in-0-clause-ok
returns-in_ok-one-in-0-clause-ok c = grind (arith, common_steps)

pub returns-in_ok-one-in-0-clause-err : goal.returns-in_ok-one-in-0-clause-err
returns-in_ok-one-in-0-clause-err c = grind (arith, common_steps)

pub returns-in-91-clause-ok : goal.returns-in-91-clause-ok
returns-in-91-clause-ok c = grind (arith, common_steps)

pub returns-in-91-clause-err : goal.returns-in-91-clause-err
returns-in-91-clause-err c = grind (arith, common_steps)

pub returns-in-123-clause-ok : goal.returns-in-123-clause-ok
returns-in-123-clause-ok c = grind (arith, common_steps)

pub returns-in-123-clause-err : goal.returns-in-123-clause-err
returns-in-123-clause-err c = grind (arith, common_steps)

pub returns-in_ok-one-in-1-to-9-clause-ok : goal.returns-in_ok-one-in-1-to-9-clause-ok
returns-in_ok-one-in-1-to-9-clause-ok c = grind (arith, common_steps)

pub returns-in_ok-one-in-1-to-9-clause-err : goal.returns-in_ok-one-in-1-to-9-clause-err
returns-in_ok-one-in-1-to-9-clause-err c = grind (arith, common_steps)

pub returns-in_default-clause-ok : goal.returns-in_default-clause-ok
returns-in_default-clause-ok c = grind (arith, common_steps)

pub returns-in_default-clause-err : goal.returns-in_default-clause-err
returns-in_default-clause-err c = grind (arith, common_steps)

pub returns-in_default-2-clause-ok : goal.returns-in_default-2-clause-ok
returns-in_default-2-clause-ok c = grind (arith, common_steps)

pub returns-in_default-2-clause-err : goal.returns-in_default-2-clause-err
returns-in_default-2-clause-err c = grind (arith, common_steps)

pub returns-in-91-2-clause-ok : goal.returns-in-91-2-clause-ok
returns-in-91-2-clause-ok c = grind (arith, common_steps)

pub returns-in-91-2-clause-err : goal.returns-in-91-2-clause-err
returns-in-91-2-clause-err c = grind (arith, common_steps)

pub returns-in-91-2-2-clause-ok : goal.returns-in-91-2-2-clause-ok
returns-in-91-2-2-clause-ok c = grind (arith, common_steps)

pub returns-in-91-2-2-clause-err : goal.returns-in-91-2-2-clause-err
returns-in-91-2-2-clause-err c = grind (arith, common_steps)
