use Rattle.std.proofs.Common.{sym, ◌∙◌, arith}
use Rattle.std.proofs.lemmas.Grind.{common_steps}
use Rattle.domain_run.proofs.Front.{others_all, removed_parts}
use Rattle.domain_run.proofs.Woken.{others_at}
use Rattle.domain_run.proofs.task_table.listing.drop_number.Goals as goal

pub returns-clause-tasks : goal.returns-clause-tasks
returns-clause-tasks c =
    let tasks = c.args.tasks.now in
    let p = c.in-Some.place in
    let at = c.in-Some.ensures.there in
    c.drop_at.ensures.tasks ∙ removed_parts tasks p ∙ sym (others_at tasks p c.args.number c.requires.counted.task_table.numbered at.within (λ d. sym (at.is d)))

-- where no task has the number
pub returns-in_default-clause-tasks : goal.returns-in_default-clause-tasks
returns-in_default-clause-tasks c = sym (others_all c.args.tasks.now c.args.number (c.in_default.ensures.absent))

pub returns-in_default-clause-counted : goal.returns-in_default-clause-counted
returns-in_default-clause-counted c = grind (arith, common_steps)

pub returns-in_default-clause-schedule : goal.returns-in_default-clause-schedule
returns-in_default-clause-schedule c = grind (arith, common_steps)
