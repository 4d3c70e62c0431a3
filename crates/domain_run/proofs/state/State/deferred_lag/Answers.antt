use Rattle.std.proofs.Common.{◌-◌, List, sym, ap, ◌∙◌, subst, arith}
use Rattle.std.specs.Prelude.{All}
use Rattle.edf_pick.specs.Places.{Places}
use Rattle.domain_run.specs.declared.task.Task.{Task}
use Rattle.domain_run.specs.Domain.{Domain}
use Rattle.domain_run.specs.Jump.{running_numbers}
use Rattle.domain_run.specs.Sound.{IsDomain}
use Rattle.domain_run.specs.private.DeferringTimers.{with_lags, awake, IsBare, MayDefer}
use Rattle.domain_run.specs.private.TaskTable.{without_zero_lag}
use Rattle.domain_run.proofs.Deferring.{back_all, defer_bare, same_bared}
use Rattle.domain_run.proofs.Paying.{later_is}
use Rattle.domain_run.proofs.state.State.deferred_lag.Goals as goal

pub invariant_of-self : goal.invariant_of-self
invariant_of-self c =
    let s = c.self.inside in
    let d : Domain = record { cpus = s.cpus; limit = s.limit; time = s.time; tasks = s.task_table.tasks; used = s.used; curr = s.task_table.places; switches = s.switches.items } in
    let e = c.deferred_lag.ensures in
    record {
      domain = subst (λ (ps : Places). IsDomain (record d { tasks = c.deferred_lag.new.self.tasks; curr = ps })) (sym e.places) (later_is d without_zero_lag d.time c.deferred_lag.new.self.tasks c.self.invariant.domain same_bared (omega arith) c.self.invariant.domain.steady.early e.tasks e.sound);
      wide = e.cpus ∙ c.self.invariant.wide;
      running_is = λ listed. c.self.invariant.running_is listed ∙ ap running_numbers (sym e.places);
      running_room = c.self.invariant.running_room;
      switch_room = c.self.invariant.switch_room;
    }

pub returns-clause-awake : goal.returns-clause-awake
returns-clause-awake c =
    let s = c.self.inside in
    let d : Domain = record { cpus = s.cpus; limit = s.limit; time = s.time; tasks = s.task_table.tasks; used = s.used; curr = s.task_table.places; switches = s.switches.items } in
    let e = c.deferred_lag.ensures in
    let lags = c.deferred_lag.new.lags in
    let may = subst (λ (x : Domain). All (MayDefer (x.time - 1)) x.tasks) (sym c.self.view_is) c.requires.may in
    ap (λ (ps : Places). awake lags (record d { tasks = c.deferred_lag.new.self.tasks; curr = ps })) e.places
    ∙ ap (λ (ts : List Task). record d { tasks = with_lags (d.time - 1) lags ts }) e.tasks
    ∙ ap (λ (ts : List Task). record d { tasks = ts }) (back_all (d.time - 1) lags s.task_table.tasks may e.lags)
    ∙ c.self.view_is

pub returns-clause-bare : goal.returns-clause-bare
returns-clause-bare c =
    let s = c.self.inside in
    let may = subst (λ (x : Domain). All (MayDefer (x.time - 1)) x.tasks) (sym c.self.view_is) c.requires.may in
    subst (λ (ts : List Task). All IsBare ts) (sym c.deferred_lag.ensures.tasks) (defer_bare (s.time - 1) s.task_table.tasks may)
