use Rattle.std.proofs.Common.{◌∙◌}
use Rattle.tasks_text.proofs.Admitted.{admission_for, numbered_as, unnumbered_as, numbered_again, unnumbered_again}
use Rattle.tasks_text.proofs.line.task_by.Goals as goal

pub returns-in-Ok-clause-only : goal.returns-in-Ok-clause-only
returns-in-Ok-clause-only c = λ t is fields.
    let n = numbered_as t c.args.first.now c.args.rest.now c.in-Some.name.now c.in-Some.pid.now is fields c.in-Some.ensures.0 c.in-Some.ensures.1 in
    c.numbered.ensures ∙ numbered_again t n.0 c.in-Ok.admission n.1 (c.in-Ok.ensures.only (admission_for t n.0) n.2.within n.2.fields)

pub returns-in-Err-clause-only : goal.returns-in-Err-clause-only
returns-in-Err-clause-only c = λ t is fields.
    let n = numbered_as t c.args.first.now c.args.rest.now c.in-Some.name.now c.in-Some.pid.now is fields c.in-Some.ensures.0 c.in-Some.ensures.1 in
    c.in-Err.ensures.only (admission_for t n.0) n.2.within n.2.fields

pub returns-in-Ok-admitted-clause-only : goal.returns-in-Ok-admitted-clause-only
returns-in-Ok-admitted-clause-only c = λ t is fields.
    let n = unnumbered_as t c.args.first.now c.args.rest.now is fields c.in-None.ensures in
    c.unnumbered.ensures ∙ unnumbered_again t 0 c.in-Ok-admitted.admission n.0 (c.in-Ok-admitted.ensures.only (admission_for t 0) n.1.within n.1.fields)

pub returns-in-Err-admitted-clause-only : goal.returns-in-Err-admitted-clause-only
returns-in-Err-admitted-clause-only c = λ t is fields.
    let n = unnumbered_as t c.args.first.now c.args.rest.now is fields c.in-None.ensures in
    c.in-Err-admitted.ensures.only (admission_for t 0) n.1.within n.1.fields
