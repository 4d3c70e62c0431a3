use Rattle.std.proofs.Common.{◌≡◌, ◌<◌, ◌≤◌, ◌^◌, length, vec_len, vec_capacity}
use Rattle.domain_run.specs.Jump.{running_numbers, ticks_to_event}
use Rattle.jump_run.specs.Plans.{ArePlans}
use Rattle.jump_run.proofs.crew.gather.Given as goal

abbrev pub invariant-loop-i : goal.invariant-loop-i
invariant-loop-i l = record {
  some : 0 < l.ticks;
  most : l.ticks ≤ l.most;
  quiet : l.ticks ≤ ticks_to_event l.state;
  short : l.ticks ≤ 2 ^ 42;
  within : l.i ≤ length (running_numbers l.state.curr);
  few : 0 < l.i → length (running_numbers l.state.curr) ≤ 64;
  room : vec_capacity l.plans ≡ 64;
  len : vec_len l.plans ≡ l.i;
  long : length l.plans.items ≡ l.i;
  each : ArePlans l.state l.ticks l.plans.items;
}
