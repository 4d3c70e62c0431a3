use Rattle.std.proofs.Common.{sym, ap, ◌∙◌, subst}
use Rattle.edf_pick.specs.Places.{Places}
use Rattle.domain_run.specs.Domain.{Domain}
use Rattle.domain_run.specs.Jump.{running_numbers}
use Rattle.domain_run.specs.Sound.{IsDomain}
use Rattle.domain_run.proofs.Deferring.{domain_lags}
use Rattle.domain_run.proofs.state.State.take_back.Goals as goal

pub invariant_of-self : goal.invariant_of-self
invariant_of-self c =
    let s = c.self.inside in
    let d : Domain = record { cpus = s.cpus; limit = s.limit; time = s.time; tasks = s.task_table.tasks; used = s.used; curr = s.task_table.places; switches = s.switches.items } in
    let e = c.take_back.ensures in
    record {
      domain = subst (λ (ps : Places). IsDomain (record d { tasks = c.take_back.new.self.tasks; curr = ps })) (sym e.places) (domain_lags d c.saturating_sub.result c.args.lags.now c.take_back.new.self.tasks c.self.invariant.domain e.tasks);
      wide = e.cpus ∙ c.self.invariant.wide;
      running_is = λ listed. c.self.invariant.running_is listed ∙ ap running_numbers (sym e.places);
      running_room = c.self.invariant.running_room;
      switch_room = c.self.invariant.switch_room;
    }
