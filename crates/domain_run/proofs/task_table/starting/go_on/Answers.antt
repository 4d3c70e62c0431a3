use Rattle.std.proofs.Common.{◌≡◌, Some, set, sym, ap, subst, ◌∙◌}
use Rattle.domain_run.specs.declared.task.Task.{Task}
use Rattle.due_times.specs.OpenCharges.{OpenChargesView}
use Rattle.domain_run.specs.private.Owed.{owed, owed_by, owed_all, AreOpen, MayStart}
use Rattle.domain_run.proofs.Chargings.{its_charge, went_on_view, went_on_waits}
use Rattle.domain_run.proofs.Owed.{read_owed}
use Rattle.domain_run.proofs.task_table.starting.go_on.Goals as goal

pub charge_for-next-requires-clause-may : goal.charge_for-next-requires-clause-may
charge_for-next-requires-clause-may c =
    let s = c.args.charges.now in
    let items = c.args.tasks.now in
    let p = c.args.place in
    let x = c.at_mut-task.result.now in
    let read = c.at_mut-task.ensures.value in
    let number : x.number ≡ c.args.open_charge.number = ap (λ (t : Task). t.number) read ∙ c.requires.at.is x in
    let home : x.cpu ≡ c.args.cpu = ap (λ (t : Task). t.cpu) read ∙ c.requires.home x in
    let its = its_charge s.upto c.args.cpu s.charges items c.args.open_charge c.requires.is_charging p x c.requires.at.within read number c.requires.numbered home in
    let may = subst MayStart (sym (read_owed s.upto s.charges items p x c.requires.at.within read)) (c.requires.may (owed s.upto s.charges x)) in
    subst MayStart (sym (c.charge.ensures ∙ ap (λ n. owed_by n (Some c.args.open_charge) x) c.upto-upto.ensures.upto))
    (subst (λ o. MayStart (owed_by s.upto o x)) its may)

pub returns-clause-tasks : goal.returns-clause-tasks
returns-clause-tasks c =
    let s = c.args.charges.now in
    let items = c.args.tasks.now in
    let p = c.args.place in
    let x = c.at_mut-task.result.now in
    let read = c.at_mut-task.ensures.value in
    let number : x.number ≡ c.args.open_charge.number = ap (λ (t : Task). t.number) read ∙ c.requires.at.is x in
    let home : x.cpu ≡ c.args.cpu = ap (λ (t : Task). t.cpu) read ∙ c.requires.home x in
    let charged = c.charge.ensures ∙ ap (λ n. owed_by n (Some c.args.open_charge) x) c.upto-upto.ensures.upto in
    let since = c.charge_for-next.ensures.since ∙ c.upto-upto.ensures.upto in
    ap (λ (v : OpenChargesView). owed_all v (set items p c.charge.new.task)) c.start_charge.ensures
    ∙ went_on_view s.upto c.args.cpu s.charges items c.args.open_charge c.charge_for-next.result c.requires.is_charging c.requires.there since p x c.charge.new.task c.requires.at.within read number c.requires.numbered home charged

pub returns-clause-waits : goal.returns-clause-waits
returns-clause-waits c =
    let s = c.args.charges.now in
    let items = c.args.tasks.now in
    let p = c.args.place in
    let x = c.at_mut-task.result.now in
    let read = c.at_mut-task.ensures.value in
    let number : x.number ≡ c.args.open_charge.number = ap (λ (t : Task). t.number) read ∙ c.requires.at.is x in
    let home : x.cpu ≡ c.args.cpu = ap (λ (t : Task). t.cpu) read ∙ c.requires.home x in
    let charged = c.charge.ensures ∙ ap (λ n. owed_by n (Some c.args.open_charge) x) c.upto-upto.ensures.upto in
    let since = c.charge_for-next.ensures.since ∙ c.upto-upto.ensures.upto in
    let named = c.charge_for-next.ensures.number ∙ ap (λ (t : Task). t.number) charged ∙ number in
    subst (λ (v : OpenChargesView). AreOpen v.charges (set items p c.charge.new.task)) (sym c.start_charge.ensures)
    (went_on_waits s.upto c.args.cpu s.charges items c.args.open_charge c.charge_for-next.result c.requires.is_charging c.requires.there since p x c.charge.new.task c.requires.at.within read number c.requires.numbered home charged named c.charge_for-next.ensures.waits c.requires.waits)
