use Rattle.std.proofs.Common.{◌<◌, ◌≤◌, All, take}
use Rattle.jump_run.proofs.crew.first_spent.Given as goal

abbrev pub invariant-loop-i : goal.invariant-loop-i
invariant-loop-i l = record {
  some : 0 < l.ticks;
  most : l.ticks ≤ l.most;
  each : All (λ p. l.ticks ≤ p.spent) (take l.i l.plans);
}
