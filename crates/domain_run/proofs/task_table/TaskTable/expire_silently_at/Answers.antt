use Rattle.std.proofs.Common.{◌≡◌, ◌≢◌, ◌<◌, Some, None, length, map, get_or, sym, ap, subst, ◌∙◌, arith}
use Rattle.std.specs.Prelude.{AllPairs}
use Rattle.domain_run.specs.private.TaskTable.{TaskTableView}
use Rattle.domain_run.specs.private.Owed.{time_passed}
use Rattle.domain_run.proofs.Extending.{on_passes}
use Rattle.domain_run.proofs.Later.{orphan_passes}
use Rattle.domain_run.proofs.task_table.TaskTable.expire_silently_at.Goals as goal

pub returns-in_default-at-clause-tasks : goal.returns-in_default-at-clause-tasks
returns-in_default-at-clause-tasks c =
    let old = c.args.self.now in
    let open_charge = c.in-Some.open_charge in
    let is_charging : get_or old.charges c.args.cpu None ≡ Some open_charge = ap (λ (r : TaskTableView). get_or r.charges c.args.cpu None) (sym c.self.view_is) ∙ sym c.in-Some.ensures.charge in
    ap (λ (r : TaskTableView). map (time_passed c.args.time c.args.ticks r.charges) r.tasks) c.vacate.ensures
    ∙ orphan_passes c.args.time c.args.ticks c.args.cpu old.charges old.tasks open_charge is_charging c.in_default-at.ensures.absent

pub returns-then-extend_at-clause-tasks : goal.returns-then-extend_at-clause-tasks
returns-then-extend_at-clause-tasks c =
    let old = c.args.self.now in
    let open_charge = c.in-Some.open_charge in
    let is_charging : get_or old.charges c.args.cpu None ≡ Some open_charge = ap (λ (r : TaskTableView). get_or r.charges c.args.cpu None) (sym c.self.view_is) ∙ sym c.in-Some.ensures.charge in
    let there = subst (λ (r : TaskTableView). c.args.cpu < r.cpus) (sym c.self.view_is) c.requires.there in
    let inside : c.args.cpu < length c.self.inside.charges.charges = omega (arith, there, c.self.invariant.wide) in
    let wide = subst (λ (r : TaskTableView). c.args.cpu < length r.charges) c.self.view_is inside in
    let numbered = subst (λ (r : TaskTableView). AllPairs (λ a b. a.number ≢ b.number) r.tasks) c.self.view_is c.self.invariant.counted.task_table.numbered in
    on_passes c.args.time c.args.ticks c.args.cpu c.in-Some-at.place open_charge old c.extend_at.new.self is_charging wide c.in-Some-at.ensures.there c.in-Some-at.ensures.home numbered (c.extend_at.ensures.on c.if-extend_at.true)
