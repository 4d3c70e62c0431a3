use Rattle.std.proofs.Common.{◌<◌, length, eqb, sym, subst}
use Rattle.std.specs.Prelude.{find}
use Rattle.domain_run.specs.private.Index.{IsListedAt}
use Rattle.domain_run.specs.private.TaskTable.{TaskTableView, IsSeenAs}
use Rattle.domain_run.proofs.Bare.{inside_seen}
use Rattle.domain_run.proofs.Finding.{find_absent}
use Rattle.domain_run.proofs.Owed.{found_owed, seen_owed}
use Rattle.domain_run.proofs.task_table.TaskTable.find.Goals as goal

pub returns-in-None-clause-absent : goal.returns-in-None-clause-absent
returns-in-None-clause-absent c = find_absent c.args.self.now.tasks c.args.number c.in-None.ensures.absent

pub returns-in-Some-clause-there : goal.returns-in-Some-clause-there
returns-in-Some-clause-there c =
    let s = c.self.inside in
    let x = c.at.result.now in
    let at = subst (λ (r : TaskTableView). IsListedAt r.tasks c.args.number c.in-Some.place) (sym c.self.view_is) c.in-Some.ensures.there in
    subst (λ (r : TaskTableView). IsSeenAs x (find (λ t. eqb t.number c.args.number) r.tasks)) c.self.view_is
    (seen_owed s.charges.upto s.charges.charges x _ (found_owed s.charges.upto s.charges.charges s.tasks c.args.number c.in-Some.place x c.self.invariant.counted.task_table.numbered at c.at.ensures))

pub at-requires : goal.at-requires
at-requires c =
    let s = c.self.inside in
    inside_seen s.charges.upto s.charges.charges s.tasks c.in-Some.place (subst (λ (r : TaskTableView). c.in-Some.place < length r.tasks) (sym c.self.view_is) c.in-Some.ensures.there.within)

pub returns-in-Some-clause-numbered : goal.returns-in-Some-clause-numbered
returns-in-Some-clause-numbered c = c.place.ensures.numbered
