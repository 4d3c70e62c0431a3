use Rattle.std.proofs.Common.{◌≡◌, ◌<◌, ◌≤◌, length}
use Rattle.domain_run.specs.Jump.{running_numbers}
use Rattle.domain_run.proofs.Charged.{AreFirst}
use Rattle.domain_run.proofs.charging.charge.Given as goal

abbrev pub invariant-loop-i : goal.invariant-loop-i
invariant-loop-i l = record {
  within : l.i ≤ length (running_numbers l.state.curr);
  few : 0 < l.i → length (running_numbers l.state.curr) ≤ 64;
  len : length l.budgets ≡ 64;
  each : AreFirst l.state l.i l.budgets;
}
