use Rattle.std.proofs.Common.{◌≡◌, ℕ, ◌<◌, ◌*◌, length}
use Rattle.std.specs.Prelude.{pos, ◌-ℤ◌, slice_index, slice_index_or}
use Rattle.jump_run.specs.Plan.{AreGathered}
use Rattle.jump_run.proofs.alone.make.Given as goal

abbrev pub invariant-loop-i : goal.invariant-loop-i
invariant-loop-i g l = record {
  gathered : AreGathered l.state l.span.ticks l.span.count l.room.lefts l.room.rates;
  len : length l.room.budgets ≡ 64;
  each : (j : ℕ) → j < l.i → slice_index_or l.room.budgets j (pos 0) ≡ pos (slice_index l.room.lefts j) -ℤ pos (slice_index l.room.rates j * l.span.ticks);
}
