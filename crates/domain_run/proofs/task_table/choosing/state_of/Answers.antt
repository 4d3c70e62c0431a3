use Rattle.std.proofs.Common.{ℕ, Option, sym, ap, ◌∙◌}
use Rattle.domain_run.specs.declared.task.Task.{Task}
use Rattle.domain_run.specs.Switches.{left_by, left_in, prev_state_of}
use Rattle.domain_run.proofs.Finding.{find_absent, find_at}
use Rattle.domain_run.proofs.task_table.choosing.state_of.Goals as goal

pub returns-in-None-place : goal.returns-in-None-place
returns-in-None-place c =
    let tasks = c.args.tasks.now in
    sym (ap (λ (o : Option ℕ). prev_state_of tasks o) c.in-Some.is ∙ ap left_by (find_absent tasks c.in-Some.number c.in-None-place.ensures.absent))

pub returns-in-Some-place : goal.returns-in-Some-place
returns-in-Some-place c =
    let tasks = c.args.tasks.now in
    let p = c.in-Some-place.place in
    let at = c.in-Some-place.ensures.there in
    c.left_in.ensures ∙ ap (λ (t : Task). left_in t.condition) c.at.ensures
    ∙ sym (ap (λ (o : Option ℕ). prev_state_of tasks o) c.in-Some.is ∙ ap left_by (find_at tasks c.in-Some.number p c.at.result.now c.requires.numbered at))
