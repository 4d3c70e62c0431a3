use Rattle.std.proofs.Common.{◌≡◌, ◌<◌, ◌≤◌, ◌^◌, length}
use Rattle.domain_run.specs.Jump.{running_numbers, ticks_to_event}
use Rattle.jump_run.specs.Plan.{AreGathered}
use Rattle.jump_run.proofs.alone.gather.Given as goal

abbrev pub invariant-loop-i : goal.invariant-loop-i
invariant-loop-i g l = record {
  some : 0 < l.ticks;
  most : l.ticks ≤ l.most;
  quiet : l.ticks ≤ ticks_to_event l.state;
  short : l.ticks ≤ 2 ^ 42;
  within : l.i ≤ length (running_numbers l.state.curr);
  few : 0 < l.i → length (running_numbers l.state.curr) ≤ 64;
  lefts : length l.room.lefts ≡ 64;
  rates : length l.room.rates ≡ 64;
  budgets : length l.room.budgets ≡ 64;
  each : AreGathered l.state l.ticks l.i l.room.lefts l.room.rates;
}
