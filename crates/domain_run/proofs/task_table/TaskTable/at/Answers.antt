use Rattle.std.proofs.Common.{◌≡◌, ◌<◌, None, length, get_or, sym, subst}
use Rattle.domain_run.specs.declared.task.Task.{Task}
use Rattle.domain_run.specs.private.TaskTable.{TaskTableView}
use Rattle.domain_run.specs.private.Owed.{charge_of_task}
use Rattle.domain_run.proofs.Bare.{inside_seen, bare_at, home_seen}
use Rattle.domain_run.proofs.task_table.TaskTable.at.Goals as goal

pub returns-clause-task : goal.returns-clause-task
returns-clause-task c d =
    let s = c.self.inside in
    let x = c.at.result.now in
    let p = c.args.place in
    let h = inside_seen s.charges.upto s.charges.charges s.tasks p (subst (λ (r : TaskTableView). p < length r.tasks) (sym c.self.view_is) c.requires.there) in
    let free = subst (λ (r : TaskTableView). (e : Task) → charge_of_task r.charges (get_or r.tasks p e) ≡ None) (sym c.self.view_is) c.requires.free in
    subst (λ (r : TaskTableView). x ≡ get_or r.tasks p d) c.self.view_is (bare_at s.charges.upto s.charges.charges s.tasks p x h c.at.ensures free d)

pub returns-clause-home : goal.returns-clause-home
returns-clause-home c =
    let s = c.self.inside in
    let x = c.at.result.now in
    let p = c.args.place in
    let h = inside_seen s.charges.upto s.charges.charges s.tasks p (subst (λ (r : TaskTableView). p < length r.tasks) (sym c.self.view_is) c.requires.there) in
    subst (λ (r : TaskTableView). x.cpu < r.cpus) c.self.view_is
    (home_seen s.charges.upto s.charges.charges s.tasks p x h c.at.ensures (length s.queue.accounts.all) s.queue c.self.invariant.counted)
