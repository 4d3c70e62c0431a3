use Rattle.std.proofs.Common.{◌≡◌, map, take, length}
use Rattle.jump_run.proofs.crew.put_lefts.Given as goal

abbrev pub invariant-loop-i : goal.invariant-loop-i
invariant-loop-i l = record {
  len : length l.room.budgets ≡ 64;
  each : take l.i l.room.budgets ≡ map (λ s. s.left) (take l.i l.slices);
}
