use Rattle.std.proofs.Common.{subst}
use Rattle.std.specs.Prelude.{IfSome, IfNone}
use Rattle.domain_run.specs.private.Index.{IsListedAt, IsUnlisted}
use Rattle.domain_run.specs.private.TaskTable.{TaskTableView}
use Rattle.domain_run.specs.private.Owed.{owed}
use Rattle.domain_run.proofs.Owed.{alike_owed, some_like, none_like}
use Rattle.domain_run.proofs.task_table.TaskTable.place.Goals as goal

pub returns-clause-there : goal.returns-clause-there
returns-clause-there c =
    let s = c.self.inside in
    let o = c.place.result in
    subst (λ (r : TaskTableView). IfSome o (IsListedAt r.tasks c.args.number)) c.self.view_is
    (some_like (owed s.charges.upto s.charges.charges) (alike_owed s.charges.upto s.charges.charges) s.tasks c.args.number o (c.place.ensures.there))

pub returns-clause-absent : goal.returns-clause-absent
returns-clause-absent c =
    let s = c.self.inside in
    let o = c.place.result in
    subst (λ (r : TaskTableView). IfNone o (IsUnlisted r.tasks c.args.number)) c.self.view_is
    (none_like (owed s.charges.upto s.charges.charges) (alike_owed s.charges.upto s.charges.charges) s.tasks c.args.number o (c.place.ensures.absent))
