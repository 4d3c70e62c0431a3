use Rattle.std.proofs.Common.{◌≡◌, ℕ, None, map, set, sym, ap, subst, ◌∙◌}
use Rattle.domain_run.specs.declared.task.Task.{Task}
use Rattle.due_times.specs.OpenCharges.{OpenChargesView}
use Rattle.domain_run.specs.private.Owed.{owed, owed_all, AreOpen, charged_on}
use Rattle.domain_run.proofs.Chargings.{charge_waits, vacated_view, vacated_waits}
use Rattle.domain_run.proofs.task_table.starting.vacate_place.Goals as goal

pub charge_on-requires-clause-waits : goal.charge_on-requires-clause-waits
charge_on-requires-clause-waits c =
    let s = c.args.charges.now in
    let x = c.at_mut.result.now in
    let read = c.at_mut.ensures.value in
    let number : x.number ≡ c.args.open_charge.number = ap (λ (t : Task). t.number) read ∙ c.requires.at.is x in
    charge_waits s.upto c.args.cpu s.charges c.args.tasks.now c.args.open_charge c.requires.is_charging c.args.place x c.requires.at.within read number c.requires.numbered c.requires.waits

pub returns-clause-tasks : goal.returns-clause-tasks
returns-clause-tasks c =
    let s = c.args.charges.now in
    let items = c.args.tasks.now in
    let x = c.at_mut.result.now in
    let read = c.at_mut.ensures.value in
    let number : x.number ≡ c.args.open_charge.number = ap (λ (t : Task). t.number) read ∙ c.requires.at.is x in
    let is : c.charge_on.new.task ≡ charged_on c.args.cpu s.upto c.args.open_charge x = c.charge_on.ensures ∙ ap (λ (n : ℕ). charged_on c.args.cpu n c.args.open_charge x) c.upto.ensures.upto in
    ap (λ (v : OpenChargesView). owed_all v (set items c.args.place c.charge_on.new.task)) c.end_charge.ensures
    ∙ ap (λ (t : Task). map (owed s.upto (set s.charges c.args.cpu None)) (set items c.args.place t)) is
    ∙ vacated_view s.upto c.args.cpu s.charges items c.args.open_charge c.requires.is_charging c.args.place x c.requires.at.within read number c.requires.numbered

pub returns-clause-waits : goal.returns-clause-waits
returns-clause-waits c =
    let s = c.args.charges.now in
    let items = c.args.tasks.now in
    let x = c.at_mut.result.now in
    let read = c.at_mut.ensures.value in
    let number : x.number ≡ c.args.open_charge.number = ap (λ (t : Task). t.number) read ∙ c.requires.at.is x in
    let is : c.charge_on.new.task ≡ charged_on c.args.cpu s.upto c.args.open_charge x = c.charge_on.ensures ∙ ap (λ (n : ℕ). charged_on c.args.cpu n c.args.open_charge x) c.upto.ensures.upto in
    subst (λ (v : OpenChargesView). AreOpen v.charges (set items c.args.place c.charge_on.new.task)) (sym c.end_charge.ensures)
    (subst (λ (t : Task). AreOpen (set s.charges c.args.cpu None) (set items c.args.place t)) (sym is)
    (vacated_waits s.upto c.args.cpu s.charges items c.args.open_charge c.requires.is_charging c.args.place x c.requires.at.within read number c.requires.numbered c.requires.waits))
