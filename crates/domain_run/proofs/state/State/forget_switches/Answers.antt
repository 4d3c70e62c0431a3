use Rattle.std.proofs.Common.{sym, subst, ap, List}
use Rattle.domain_run.specs.Switch.{Switch}
use Rattle.domain_run.specs.Domain.{Domain}
use Rattle.domain_run.specs.Sound.{IsDomain}
use Rattle.domain_run.proofs.Passing.{forgets_keeps}
use Rattle.domain_run.proofs.state.State.forget_switches.Goals as goal

abbrev before : goal.After-clear → Domain
before c = let s = c.self.inside in record { cpus = s.cpus; limit = s.limit; time = s.time; tasks = s.task_table.tasks; used = s.used; curr = s.task_table.places; switches = s.switches.items }

pub invariant_of-self : goal.invariant_of-self
invariant_of-self c = record {
  domain = subst IsDomain (sym (ap (λ (xs : List Switch). record (before c) { switches = xs }) c.clear.ensures.items)) (forgets_keeps (before c) c.self.invariant.domain);
  wide = c.self.invariant.wide;
  running_is = c.self.invariant.running_is;
  running_room = c.self.invariant.running_room;
  switch_room = rw c.clear.ensures.capacity c.self.invariant.switch_room;
}
