use Rattle.std.proofs.Common.{◌≡◌, sym, subst, ap, ◌∙◌}
use Rattle.std.specs.Prelude.{None}
use Rattle.domain_run.specs.declared.call.Reply.TheVariants.{Changed}
use Rattle.domain_run.specs.Domain.{Domain}
use Rattle.domain_run.specs.Calls.{regrade_reply, task_of, with_task_changed, with_new_params}
use Rattle.domain_run.specs.Jump.{running_numbers}
use Rattle.domain_run.specs.Sound.{IsDomain}
use Rattle.domain_run.proofs.Changing.{regrade_keeps}
use Rattle.domain_run.proofs.state.State.transition.Goals as goal

abbrev before : goal.After-apply_number → Domain
before c = let s = c.self.inside in record { cpus = s.cpus; limit = s.limit; time = s.time; tasks = s.task_table.tasks; used = s.used; curr = s.task_table.places; switches = s.switches.items }

after_is : (c : goal.After-apply_number) → record (before c) { tasks = c.apply_number.new.self.tasks; curr = c.apply_number.new.self.places } ≡ with_task_changed (before c) c.args.number (with_new_params c.args.params.now)
after_is c = λ i. record (before c) { tasks = c.apply_number.ensures.tasks i; curr = c.apply_number.ensures.places i }

pub apply_number-requires-clause-may : goal.apply_number-requires-clause-may
apply_number-requires-clause-may c k d h same = tt

pub invariant_of-self : goal.invariant_of-self
invariant_of-self c = record {
  domain = subst IsDomain (sym (after_is c)) (regrade_keeps (before c) c.args.number c.args.params.now c.self.invariant.domain (subst (λ (e : Domain). regrade_reply e c.args.params.now None (task_of e c.args.number) ≡ Changed) (sym c.self.view_is) c.requires) (rw (← c.apply_number.ensures.tasks) c.apply_number.ensures.sound));
  wide = c.apply_number.ensures.cpus ∙ c.self.invariant.wide;
  running_is = λ listed. c.self.invariant.running_is listed ∙ ap running_numbers (sym c.apply_number.ensures.places);
  running_room = c.self.invariant.running_room;
  switch_room = c.self.invariant.switch_room;
}
