use Rattle.std.proofs.Common.{◌≡◌, ◌∙◌, sym, ap, Some}
use Rattle.tasks_text.specs.private.Lines.{admission_at, first_entry}
use Rattle.tasks_text.proofs.Admitted.{one_section, one_read, fields_spelled, is_admitted}
use Rattle.tasks_text.proofs.line.admitted.Goals as goal

pub returns-in-Some-clause-found : goal.returns-in-Some-clause-found
returns-in-Some-clause-found c = is_admitted c.in-Ok.sections.items c.in-Some.admission c.in-Ok.ensures.found.0 (sym c.admission_in.ensures ∙ c.in-Some.is)

pub returns-in-Some-clause-only : goal.returns-in-Some-clause-only
returns-in-Some-clause-only c = λ a is fields.
    let same = c.in-Ok.ensures.only (one_section a) (one_read a is) (c.deref.ensures.value ∙ c.in_ok-text.ensures ∙ fields_spelled a c.args.name.now c.args.rest.now c.args.delay.now fields) in
    let e : Some c.in-Some.admission ≡ Some a = sym c.in-Some.is ∙ c.admission_in.ensures ∙ ap (λ sections. admission_at (first_entry sections)) same in
    cc

pub returns-in-Ok-clause-only : goal.returns-in-Ok-clause-only
returns-in-Ok-clause-only c = λ a is fields.
    let same = c.in-Ok.ensures.only (one_section a) (one_read a is) (c.deref.ensures.value ∙ c.in_ok-text.ensures ∙ fields_spelled a c.args.name.now c.args.rest.now c.args.delay.now fields) in
    let e = sym c.in-None.is ∙ c.admission_in.ensures ∙ ap (λ sections. admission_at (first_entry sections)) same in
    absurd cc

pub returns-in-Err-BadLine-clause-only : goal.returns-in-Err-BadLine-clause-only
returns-in-Err-BadLine-clause-only c = λ a is fields.
    let e = c.in-Err-BadLine.ensures.only (one_section a) (one_read a is) (c.deref.ensures.value ∙ c.in_ok-text.ensures ∙ fields_spelled a c.args.name.now c.args.rest.now c.args.delay.now fields) in
    let f = c.in-Err-BadLine.field-0-is in
    absurd cc
