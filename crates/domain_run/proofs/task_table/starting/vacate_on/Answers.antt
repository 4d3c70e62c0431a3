use Rattle.std.proofs.Common.{sym, ap, subst, ◌∙◌}
use Rattle.due_times.specs.OpenCharges.{OpenChargesView}
use Rattle.domain_run.specs.private.Owed.{owed_all, AreOpen}
use Rattle.domain_run.proofs.Chargings.{lost_view, lost_waits}
use Rattle.domain_run.proofs.task_table.starting.vacate_on.Goals as goal

pub returns-in-None-clause-tasks : goal.returns-in-None-clause-tasks
returns-in-None-clause-tasks c =
    let s = c.args.charges.now in
    let open_charge = c.in-Some.open_charge in
    let absent = c.in-None.ensures.absent in
    ap (λ (v : OpenChargesView). owed_all v c.args.tasks.now) c.end_charge.ensures ∙ lost_view s.upto c.args.cpu s.charges c.args.tasks.now open_charge (sym c.in-Some.ensures.charge) absent

pub returns-in-None-clause-waits : goal.returns-in-None-clause-waits
returns-in-None-clause-waits c =
    let s = c.args.charges.now in
    let open_charge = c.in-Some.open_charge in
    let absent = c.in-None.ensures.absent in
    subst (λ (v : OpenChargesView). AreOpen v.charges c.args.tasks.now) (sym c.end_charge.ensures) (lost_waits s.upto c.args.cpu s.charges c.args.tasks.now open_charge (sym c.in-Some.ensures.charge) absent c.requires.waits)

pub vacate_place-requires-clause-at : goal.vacate_place-requires-clause-at
vacate_place-requires-clause-at c =
    c.in-Some-place.ensures.there

pub vacate_place-requires-clause-is_charging : goal.vacate_place-requires-clause-is_charging
vacate_place-requires-clause-is_charging c = sym c.in-Some.ensures.charge

pub vacate_place-requires-clause-ahead : goal.vacate_place-requires-clause-ahead
vacate_place-requires-clause-ahead c = c.in-Some.ensures.ahead
