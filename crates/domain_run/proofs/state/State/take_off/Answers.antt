use Rattle.std.proofs.Common.{◌≡◌, sym, subst, ap, ◌∙◌}
use Rattle.domain_run.specs.Domain.{Domain}
use Rattle.domain_run.specs.Calls.{after_departure}
use Rattle.domain_run.specs.Jump.{running_numbers}
use Rattle.domain_run.specs.Sound.{IsDomain}
use Rattle.domain_run.proofs.Departing.{depart_keeps}
use Rattle.domain_run.proofs.state.State.take_off.Goals as goal

abbrev before : goal.After-take_off → Domain
before c = let s = c.self.inside in record { cpus = s.cpus; limit = s.limit; time = s.time; tasks = s.task_table.tasks; used = s.used; curr = s.task_table.places; switches = s.switches.items }

after_is : (c : goal.After-take_off) → record (before c) { tasks = c.take_off.new.self.tasks; curr = c.take_off.new.self.places } ≡ after_departure (before c) c.args.number
after_is c = λ i. record (before c) { tasks = c.take_off.ensures.tasks i; curr = c.take_off.ensures.places i }

pub take_off-requires : goal.take_off-requires
take_off-requires c = record { sound = c.self.invariant.domain.steady.sound }

pub invariant_of-self : goal.invariant_of-self
invariant_of-self c = record {
  domain = subst IsDomain (sym (after_is c)) (depart_keeps (before c) c.args.number c.self.invariant.domain);
  wide = c.take_off.ensures.cpus ∙ c.self.invariant.wide;
  running_is = λ listed. c.self.invariant.running_is listed ∙ ap running_numbers (sym c.take_off.ensures.places);
  running_room = c.self.invariant.running_room;
  switch_room = c.self.invariant.switch_room;
}
