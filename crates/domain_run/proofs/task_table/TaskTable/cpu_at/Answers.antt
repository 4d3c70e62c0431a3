use Rattle.std.proofs.Common.{◌≡◌, ◌<◌, length, get_or, sym, subst}
use Rattle.domain_run.specs.private.TaskTable.{TaskTableView}
use Rattle.domain_run.proofs.Bare.{inside_seen, cpu_seen, home_seen}
use Rattle.domain_run.proofs.task_table.TaskTable.cpu_at.Goals as goal

pub returns-clause-cpu : goal.returns-clause-cpu
returns-clause-cpu c d =
    let s = c.self.inside in
    let x = c.at.result.now in
    let p = c.args.place in
    let h = inside_seen s.charges.upto s.charges.charges s.tasks p (subst (λ (r : TaskTableView). p < length r.tasks) (sym c.self.view_is) c.requires) in
    subst (λ (r : TaskTableView). x.cpu ≡ (get_or r.tasks p d).cpu) c.self.view_is (cpu_seen s.charges.upto s.charges.charges s.tasks p x h c.at.ensures d)

pub returns-clause-home : goal.returns-clause-home
returns-clause-home c =
    let s = c.self.inside in
    let x = c.at.result.now in
    let p = c.args.place in
    let h = inside_seen s.charges.upto s.charges.charges s.tasks p (subst (λ (r : TaskTableView). p < length r.tasks) (sym c.self.view_is) c.requires) in
    subst (λ (r : TaskTableView). x.cpu < r.cpus) c.self.view_is
    (home_seen s.charges.upto s.charges.charges s.tasks p x h c.at.ensures (length s.queue.accounts.all) s.queue c.self.invariant.counted)
