use Rattle.std.proofs.Common.{sym, subst, ◌∙◌}
use Rattle.domain_run.specs.private.TaskTable.{task_after}
use Rattle.domain_run.specs.Log.{HasLogged}
use Rattle.domain_run.specs.private.TransitionLog.{logged_by_transition}
use Rattle.domain_run.proofs.Due.{some_task}
use Rattle.domain_run.proofs.Finding.{map_at, map_others}
use Rattle.domain_run.proofs.Logging.{logs_none}
use Rattle.domain_run.proofs.LoggedChanges.{logged_at, logged_absent}
use Rattle.domain_run.proofs.sweep.apply_number.Goals as goal

pub returns-in-Some-clause-tasks : goal.returns-in-Some-clause-tasks
returns-in-Some-clause-tasks c =
    let tasks = c.args.task_table.now.tasks in
    let p = c.in-Some.place in
    let at = c.in-Some.ensures.there in
    let d = some_task tasks p at.within in
    c.apply.ensures.step.is d ∙ sym (map_at (task_after c.args.time c.args.transition.now) c.args.number tasks p d c.place.ensures.numbered at)

pub returns-in-Some-clause-logged : goal.returns-in-Some-clause-logged
returns-in-Some-clause-logged c =
    let tasks = c.args.task_table.now.tasks in
    let p = c.in-Some.place in
    let at = c.in-Some.ensures.there in
    let d = some_task tasks p at.within in
    let f = logged_by_transition c.args.time c.args.transition.now in
    subst (λ hs. HasLogged c.args.log.now hs c.apply.new.log) (sym (logged_at f c.args.number tasks p d c.place.ensures.numbered at)) (c.apply.ensures.logged d)

pub returns-in_default-clause-tasks : goal.returns-in_default-clause-tasks
returns-in_default-clause-tasks c = sym (map_others (task_after c.args.time c.args.transition.now) c.args.number c.args.task_table.now.tasks c.in_default.ensures.absent)

pub returns-in_default-clause-logged : goal.returns-in_default-clause-logged
returns-in_default-clause-logged c =
    let f = logged_by_transition c.args.time c.args.transition.now in
    subst (λ hs. HasLogged c.args.log.now hs c.args.log.now) (sym (logged_absent f c.args.number c.args.task_table.now.tasks c.in_default.ensures.absent)) (logs_none c.args.log.now)
