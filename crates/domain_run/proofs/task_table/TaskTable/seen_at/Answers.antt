use Rattle.std.proofs.Common.{◌<◌, Some, length, get_or, sym, ap, subst}
use Rattle.domain_run.specs.declared.task.Task.{Task}
use Rattle.domain_run.specs.private.TaskTable.{TaskTableView, IsSeenAs}
use Rattle.domain_run.proofs.Bare.{inside_seen, seen_at, home_seen}
use Rattle.domain_run.proofs.Owed.{seen_owed}
use Rattle.domain_run.proofs.task_table.TaskTable.seen_at.Goals as goal

pub returns-clause-seen : goal.returns-clause-seen
returns-clause-seen c d =
    let s = c.self.inside in
    let x = c.at.result.now in
    let p = c.args.place in
    let h = inside_seen s.charges.upto s.charges.charges s.tasks p (subst (λ (r : TaskTableView). p < length r.tasks) (sym c.self.view_is) c.requires) in
    subst (λ (r : TaskTableView). IsSeenAs x (Some (get_or r.tasks p d))) c.self.view_is
    (seen_owed s.charges.upto s.charges.charges x _ (ap (λ (t : Task). Some t) (sym (seen_at s.charges.upto s.charges.charges s.tasks p x h c.at.ensures d))))

pub returns-clause-home : goal.returns-clause-home
returns-clause-home c =
    let s = c.self.inside in
    let x = c.at.result.now in
    let p = c.args.place in
    let h = inside_seen s.charges.upto s.charges.charges s.tasks p (subst (λ (r : TaskTableView). p < length r.tasks) (sym c.self.view_is) c.requires) in
    subst (λ (r : TaskTableView). x.cpu < r.cpus) c.self.view_is
    (home_seen s.charges.upto s.charges.charges s.tasks p x h c.at.ensures (length s.queue.accounts.all) s.queue c.self.invariant.counted)
