use Rattle.std.proofs.Common.{◌≡◌, ◌<◌, Some, None, length, get_or, sym, ap, subst, ◌∙◌, arith}
use Rattle.std.proofs.lemmas.List.{length-set}
use Rattle.domain_run.specs.private.Index.{IsListedAt}
use Rattle.domain_run.specs.private.TaskTable.{TaskTableView}
use Rattle.due_times.specs.OpenCharges.{OpenChargesView, IsAhead}
use Rattle.domain_run.specs.private.Owed.{owed}
use Rattle.domain_run.proofs.Owed.{alike_owed, numbered_unlike, at_unlike}
use Rattle.domain_run.proofs.Stale.{set_settled}
use Rattle.domain_run.proofs.Chargings.{view_again, kept_again}
use Rattle.domain_run.proofs.task_table.TaskTable.vacate_at.Goals as goal

pub vacate_place-requires-clause-there : goal.vacate_place-requires-clause-there
vacate_place-requires-clause-there c =
    let there = subst (λ (r : TaskTableView). c.args.cpu < r.cpus) (sym c.self.view_is) c.requires.there in
    omega (arith, there, c.self.invariant.wide)

pub vacate_place-requires-clause-is_charging : goal.vacate_place-requires-clause-is_charging
vacate_place-requires-clause-is_charging c = subst (λ (r : TaskTableView). get_or r.charges c.args.cpu None ≡ Some c.args.open_charge) (sym c.self.view_is) c.requires.is_charging

pub vacate_place-requires-clause-at : goal.vacate_place-requires-clause-at
vacate_place-requires-clause-at c =
    let s = c.self.inside in
    at_unlike (owed s.charges.upto s.charges.charges) (alike_owed s.charges.upto s.charges.charges) c.args.open_charge.number c.args.place s.tasks
    (subst (λ (r : TaskTableView). IsListedAt r.tasks c.args.open_charge.number c.args.place) (sym c.self.view_is) c.requires.at)

pub vacate_place-requires-clause-ahead : goal.vacate_place-requires-clause-ahead
vacate_place-requires-clause-ahead c = subst (λ (r : TaskTableView). IsAhead r.clock c.args.open_charge) (sym c.self.view_is) c.requires.ahead

pub vacate_place-requires-clause-numbered : goal.vacate_place-requires-clause-numbered
vacate_place-requires-clause-numbered c =
    let s = c.self.inside in
    numbered_unlike (owed s.charges.upto s.charges.charges) (alike_owed s.charges.upto s.charges.charges) s.tasks c.self.invariant.counted.task_table.numbered

pub invariant_of-self : goal.invariant_of-self
invariant_of-self c =
    let s = c.self.inside in
    let v = c.vacate_place.new.charges in
    let after = c.vacate_place.new.tasks in
    let is = c.vacate_place.ensures in
    let marks = c.mark.ensures in
    let d = c.mark.new.self in
    (kept_again s.queue s.charges v s.tasks after s.stale d c.self.invariant is.tasks is.waits
    (ap (λ (x : OpenChargesView). length x.charges) is.charges ∙ length-set s.charges.charges c.args.cpu None)
    (set_settled s.stale d (length s.queue.accounts.all) s.queue.schedule.places s.charges v s.tasks after c.args.cpu None is.charges is.tasks marks.marked marks.bare marks.rated marks.sum marks.limit c.self.invariant.settled))

pub returns : goal.returns
returns c =
    let s = c.self.inside in
    let is = c.vacate_place.ensures in
    view_again s.queue c.args.cpu None s.charges c.vacate_place.new.charges s.tasks c.vacate_place.new.tasks c.args.self.now c.self.view_is is.charges is.tasks
