use Rattle.std.proofs.Common.{arith}
use Rattle.std.proofs.lemmas.Grind.{common_steps}
use Rattle.json_order.proofs.step.next_step.Goals as goal

pub returns-in_err-whole_list-in-Some-List-clause-ok : goal.returns-in_err-whole_list-in-Some-List-clause-ok
returns-in_err-whole_list-in-Some-List-clause-ok c = grind (arith, common_steps)

pub returns-in_err-whole_list-in-Some-List-clause-err : goal.returns-in_err-whole_list-in-Some-List-clause-err
returns-in_err-whole_list-in-Some-List-clause-err c = grind (arith, common_steps)

pub returns-in_err-whole_object-in-Some-Object-clause-ok : goal.returns-in_err-whole_object-in-Some-Object-clause-ok
returns-in_err-whole_object-in-Some-Object-clause-ok c = grind (arith, common_steps)

pub returns-in_err-whole_object-in-Some-Object-clause-err : goal.returns-in_err-whole_object-in-Some-Object-clause-err
returns-in_err-whole_object-in-Some-Object-clause-err c = grind (arith, common_steps)

pub returns-in-44-clause-ok : goal.returns-in-44-clause-ok
returns-in-44-clause-ok c = grind (arith, common_steps)

pub returns-in-44-clause-err : goal.returns-in-44-clause-err
returns-in-44-clause-err c = grind (arith, common_steps)

pub returns-in_ok-whole_list-in-Some-List-clause-ok : goal.returns-in_ok-whole_list-in-Some-List-clause-ok
returns-in_ok-whole_list-in-Some-List-clause-ok c = grind (arith, common_steps)

pub returns-in_ok-whole_list-in-Some-List-clause-err : goal.returns-in_ok-whole_list-in-Some-List-clause-err
returns-in_ok-whole_list-in-Some-List-clause-err c = grind (arith, common_steps)

pub returns-in_default-pop-clause-ok : goal.returns-in_default-pop-clause-ok
returns-in_default-pop-clause-ok c = grind (arith, common_steps)

pub returns-in_default-pop-clause-err : goal.returns-in_default-pop-clause-err
returns-in_default-pop-clause-err c = grind (arith, common_steps)

pub returns-in_ok-whole_object-in-Some-Object-clause-ok : goal.returns-in_ok-whole_object-in-Some-Object-clause-ok
returns-in_ok-whole_object-in-Some-Object-clause-ok c = grind (arith, common_steps)

pub returns-in_ok-whole_object-in-Some-Object-clause-err : goal.returns-in_ok-whole_object-in-Some-Object-clause-err
returns-in_ok-whole_object-in-Some-Object-clause-err c = grind (arith, common_steps)

pub returns-in_default-pop-2-clause-ok : goal.returns-in_default-pop-2-clause-ok
returns-in_default-pop-2-clause-ok c = grind (arith, common_steps)

pub returns-in_default-pop-2-clause-err : goal.returns-in_default-pop-2-clause-err
returns-in_default-pop-2-clause-err c = grind (arith, common_steps)

pub returns-in_default-clause-ok : goal.returns-in_default-clause-ok
returns-in_default-clause-ok c = grind (arith, common_steps)

pub returns-in_default-clause-err : goal.returns-in_default-clause-err
returns-in_default-clause-err c = grind (arith, common_steps)
