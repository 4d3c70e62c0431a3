use Rattle.std.proofs.Common.{◌≡◌, ◌≢◌, ◌<◌, Some, None, length, map, get_or, sym, ap, subst, ◌∙◌, arith}
use Rattle.std.specs.Prelude.{AllPairs}
use Rattle.domain_run.specs.private.TaskTable.{TaskTableView}
use Rattle.domain_run.specs.private.DeferringTimers.{with_lags, passed_bare}
use Rattle.domain_run.specs.private.Owed.{time_passed}
use Rattle.domain_run.proofs.Deferring.{orphan_bare, orphan_lags}
use Rattle.domain_run.proofs.Extending.{on_bare, on_lags, on_all_bare}
use Rattle.domain_run.proofs.task_table.TaskTable.expire_deferring_silently_at.Goals as goal

pub returns-in_default-at-clause-tasks : goal.returns-in_default-at-clause-tasks
returns-in_default-at-clause-tasks c =
    let old = c.args.self.now in
    let open_charge = c.in-Some.open_charge in
    let is_charging : get_or old.charges c.args.cpu None ≡ Some open_charge = ap (λ (r : TaskTableView). get_or r.charges c.args.cpu None) (sym c.self.view_is) ∙ sym c.in-Some.ensures.charge in
    ap (λ (r : TaskTableView). map (passed_bare c.args.time c.args.ticks r.charges) r.tasks) c.vacate.ensures
    ∙ orphan_bare c.args.time c.args.ticks c.args.cpu old.charges old.tasks open_charge is_charging c.in_default-at.ensures.absent

pub returns-in_default-at-clause-lags : goal.returns-in_default-at-clause-lags
returns-in_default-at-clause-lags c past order =
    let old = c.args.self.now in
    let open_charge = c.in-Some.open_charge in
    let is_charging : get_or old.charges c.args.cpu None ≡ Some open_charge = ap (λ (r : TaskTableView). get_or r.charges c.args.cpu None) (sym c.self.view_is) ∙ sym c.in-Some.ensures.charge in
    ap (λ (r : TaskTableView). map (time_passed c.args.time c.args.ticks r.charges) (with_lags past c.args.lags.now r.tasks)) c.vacate.ensures
    ∙ orphan_lags c.args.time c.args.ticks c.args.cpu old.charges old.tasks open_charge is_charging past c.args.lags.now c.in_default-at.ensures.absent

pub returns-then-extend_at-clause-tasks : goal.returns-then-extend_at-clause-tasks
returns-then-extend_at-clause-tasks c =
    let old = c.args.self.now in
    let open_charge = c.in-Some.open_charge in
    let is_charging : get_or old.charges c.args.cpu None ≡ Some open_charge = ap (λ (r : TaskTableView). get_or r.charges c.args.cpu None) (sym c.self.view_is) ∙ sym c.in-Some.ensures.charge in
    let there = subst (λ (r : TaskTableView). c.args.cpu < r.cpus) (sym c.self.view_is) c.requires.there in
    let inside : c.args.cpu < length c.self.inside.charges.charges = omega (arith, there, c.self.invariant.wide) in
    let wide = subst (λ (r : TaskTableView). c.args.cpu < length r.charges) c.self.view_is inside in
    let numbered = subst (λ (r : TaskTableView). AllPairs (λ a b. a.number ≢ b.number) r.tasks) c.self.view_is c.self.invariant.counted.task_table.numbered in
    on_bare c.args.time c.args.ticks c.args.cpu c.in-Some-at.place open_charge old c.extend_at.new.self is_charging wide c.in-Some-at.ensures.there c.in-Some-at.ensures.home numbered (c.extend_at.ensures.on c.if-extend_at.true)

pub returns-then-extend_at-clause-lags : goal.returns-then-extend_at-clause-lags
returns-then-extend_at-clause-lags c past order =
    let old = c.args.self.now in
    let open_charge = c.in-Some.open_charge in
    let is_charging : get_or old.charges c.args.cpu None ≡ Some open_charge = ap (λ (r : TaskTableView). get_or r.charges c.args.cpu None) (sym c.self.view_is) ∙ sym c.in-Some.ensures.charge in
    let there = subst (λ (r : TaskTableView). c.args.cpu < r.cpus) (sym c.self.view_is) c.requires.there in
    let inside : c.args.cpu < length c.self.inside.charges.charges = omega (arith, there, c.self.invariant.wide) in
    let wide = subst (λ (r : TaskTableView). c.args.cpu < length r.charges) c.self.view_is inside in
    let numbered = subst (λ (r : TaskTableView). AllPairs (λ a b. a.number ≢ b.number) r.tasks) c.self.view_is c.self.invariant.counted.task_table.numbered in
    on_lags c.args.time c.args.ticks c.args.cpu c.in-Some-at.place open_charge old c.extend_at.new.self is_charging wide c.in-Some-at.ensures.there c.in-Some-at.ensures.home numbered (c.extend_at.ensures.on c.if-extend_at.true) past c.args.lags.now

pub returns-then-extend_at-clause-bare : goal.returns-then-extend_at-clause-bare
returns-then-extend_at-clause-bare c =
    let old = c.args.self.now in
    let open_charge = c.in-Some.open_charge in
    let is_charging : get_or old.charges c.args.cpu None ≡ Some open_charge = ap (λ (r : TaskTableView). get_or r.charges c.args.cpu None) (sym c.self.view_is) ∙ sym c.in-Some.ensures.charge in
    let there = subst (λ (r : TaskTableView). c.args.cpu < r.cpus) (sym c.self.view_is) c.requires.there in
    let inside : c.args.cpu < length c.self.inside.charges.charges = omega (arith, there, c.self.invariant.wide) in
    let wide = subst (λ (r : TaskTableView). c.args.cpu < length r.charges) c.self.view_is inside in
    let numbered = subst (λ (r : TaskTableView). AllPairs (λ a b. a.number ≢ b.number) r.tasks) c.self.view_is c.self.invariant.counted.task_table.numbered in
    on_all_bare c.args.time c.args.ticks c.args.cpu c.in-Some-at.place open_charge old c.extend_at.new.self is_charging wide c.in-Some-at.ensures.there c.in-Some-at.ensures.home numbered (c.extend_at.ensures.on c.if-extend_at.true) c.requires.bare
