use Rattle.std.proofs.Common.{eqb, Some, sym, ap, subst, ◌∙◌, arith}
use Rattle.std.specs.Prelude.{find, option_map}
use Rattle.std.proofs.lemmas.Grind.{common_steps}
use Rattle.domain_run.specs.Views.{view_of}
use Rattle.domain_run.specs.private.Index.{IsListedAt}
use Rattle.domain_run.specs.private.TaskTable.{TaskTableView}
use Rattle.domain_run.specs.declared.task.TaskView.{TaskView}
use Rattle.domain_run.proofs.Finding.{find_absent}
use Rattle.domain_run.proofs.Owed.{found_owed}
use Rattle.domain_run.proofs.task_table.TaskTable.view.Goals as goal

pub returns-in-None : goal.returns-in-None
returns-in-None c = sym (ap (option_map view_of) (find_absent c.args.self.now.tasks c.args.number c.in-None.ensures.absent))

pub returns-in-Some : goal.returns-in-Some
returns-in-Some c =
    let s = c.self.inside in
    let x = c.at.result.now in
    let at = subst (λ (r : TaskTableView). IsListedAt r.tasks c.args.number c.in-Some.place) (sym c.self.view_is) c.in-Some.ensures.there in
    let found = found_owed s.charges.upto s.charges.charges s.tasks c.args.number c.in-Some.place x c.self.invariant.counted.task_table.numbered at c.at.ensures in
    ap (λ (v : TaskView). Some v) c.view_at.ensures
    ∙ sym (ap (option_map view_of) found)
    ∙ ap (λ (r : TaskTableView). option_map view_of (find (λ t. eqb t.number c.args.number) r.tasks)) c.self.view_is

pub place-requires : goal.place-requires
place-requires c = grind (arith, common_steps)

pub at-requires : goal.at-requires
at-requires c = grind (arith, common_steps)
