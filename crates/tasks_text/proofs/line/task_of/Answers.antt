use Rattle.tasks_text.proofs.Spelled.{line_has_space}
use Rattle.tasks_text.proofs.Admitted.{fault_by, not_own}
use Rattle.tasks_text.proofs.line.task_of.Goals as goal

pub returns-in_default-clause-fault : goal.returns-in_default-clause-fault
returns-in_default-clause-fault c = λ t is same. line_has_space t c.args.line.now c.in_default.ensures same

pub returns-in-Err-clause-fault : goal.returns-in-Err-clause-fault
returns-in-Err-clause-fault c = fault_by c.in-Err.fault c.args.line.now c.in-Some.first.now c.in-Some.rest.now c.in-Some.ensures.0 c.in-Some.ensures.1 c.in-Err.ensures.only

pub returns-in-Ok-false-clause-fault : goal.returns-in-Ok-false-clause-fault
returns-in-Ok-false-clause-fault c =
    not_own c.in-Ok.task c.args.line.now c.in-Some.first.now c.in-Some.rest.now c.in-Some.ensures.0 c.in-Some.ensures.1 c.in-Ok.ensures.only (λ own.
    let yes = c.in-Ok-false.ensures.1 own in
    let no = c.in-Ok-false.field-0-test in
    absurd cc)
