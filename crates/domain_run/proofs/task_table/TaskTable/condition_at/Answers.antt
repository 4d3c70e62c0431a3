use Rattle.std.proofs.Common.{◌≡◌, ◌<◌, length, get_or, sym, ap, subst, ◌∙◌}
use Rattle.domain_run.specs.declared.task.Task.{Task}
use Rattle.domain_run.specs.private.TaskTable.{TaskTableView}
use Rattle.domain_run.proofs.Bare.{inside_seen, seen_at}
use Rattle.domain_run.proofs.Owed.{alike_owed}
use Rattle.domain_run.proofs.task_table.TaskTable.condition_at.Goals as goal

pub returns : goal.returns
returns c d =
    let s = c.self.inside in
    let x = c.at.result.now in
    let p = c.args.place in
    let h = inside_seen s.charges.upto s.charges.charges s.tasks p (subst (λ (r : TaskTableView). p < length r.tasks) (sym c.self.view_is) c.requires) in
    subst (λ (r : TaskTableView). x.condition ≡ (get_or r.tasks p d).condition) c.self.view_is
    (sym (alike_owed s.charges.upto s.charges.charges x).condition ∙ ap (λ (t : Task). t.condition) (seen_at s.charges.upto s.charges.charges s.tasks p x h c.at.ensures d))
