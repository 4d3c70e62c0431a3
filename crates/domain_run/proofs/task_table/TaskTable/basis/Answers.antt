use Rattle.std.proofs.Common.{◌/◌, length, ap, ◌∙◌}
use Rattle.domain_run.specs.Tick.{shares}
use Rattle.domain_run.specs.private.TaskTable.{TaskTableView, basis_in}
use Rattle.domain_run.specs.private.Owed.{owed_all}
use Rattle.domain_run.proofs.Counting.{inactive_is}
use Rattle.domain_run.proofs.task_table.TaskTable.basis.Goals as goal

pub returns : goal.returns
returns c =
    let s = c.self.inside in
    let sums = c.self.invariant.counted.counts.sums in
    let inactive = inactive_is s.queue.accounts (shares (owed_all s.charges s.tasks)) c.args.cpu sums in
    c.basis_of.ensures
    ∙ (λ i. record { uinact = inactive i; share = sums.total i / length s.queue.accounts.all; limit = c.args.limit })
    ∙ ap (λ (r : TaskTableView). basis_in r.cpus c.args.limit r.tasks c.args.cpu) c.self.view_is
