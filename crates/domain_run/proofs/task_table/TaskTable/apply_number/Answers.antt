use Rattle.std.proofs.Common.{sym, ◌∙◌}
use Rattle.domain_run.specs.private.TaskTable.{task_after}
use Rattle.domain_run.proofs.Due.{some_task}
use Rattle.domain_run.proofs.Finding.{map_at, map_others}
use Rattle.domain_run.proofs.task_table.TaskTable.apply_number.Goals as goal

pub returns-in-Some-clause-tasks : goal.returns-in-Some-clause-tasks
returns-in-Some-clause-tasks c =
    let tasks = c.args.self.now.tasks in
    let p = c.in-Some.place in
    let at = c.in-Some.ensures.there in
    let d = some_task tasks p at.within in
    c.apply.ensures.step.is d ∙ sym (map_at (task_after c.args.time c.args.transition.now) c.args.number tasks p d c.place.ensures.numbered at)

pub returns-in_default-clause-tasks : goal.returns-in_default-clause-tasks
returns-in_default-clause-tasks c = sym (map_others (task_after c.args.time c.args.transition.now) c.args.number c.args.self.now.tasks c.in_default.ensures.absent)
