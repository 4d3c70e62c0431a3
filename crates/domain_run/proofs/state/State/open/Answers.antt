use Rattle.std.proofs.Common.{ap, sym}
use Rattle.domain_run.specs.private.TaskTable.{TaskTableView}
use Rattle.domain_run.proofs.Homing.{running_opened}
use Rattle.domain_run.proofs.Opening.{opened_is}
use Rattle.domain_run.proofs.state.State.open.Goals as goal

pub invariant_of-result : goal.invariant_of-result
invariant_of-result c = record {
  domain = rw (c.in-Ok-open-2.ensures, c.in-Ok-open.ensures, c.in_ok-switches.ensures.items) (opened_is c.args.cpus c.args.limit c.requires.cpus.0 c.requires.cpus.1 c.requires.limit.0 c.requires.limit.1);
  wide = ap (λ (r : TaskTableView). r.cpus) c.in-Ok-open-2.ensures;
  running_is = λ listed. rw (c.in-Ok.ensures.items, c.in-Ok-open-2.ensures) (sym (running_opened c.args.cpus));
  running_room = c.in-Ok.ensures.exact;
  switch_room = record { event = c.in_ok-switches.ensures.capacity; exact = sym c.capacity.ensures };
}
