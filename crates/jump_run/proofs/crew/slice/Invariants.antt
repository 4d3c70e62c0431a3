use Rattle.std.proofs.Common.{◌≡◌, map, take, vec_len, vec_capacity}
use Rattle.jump_run.specs.Plans.{slice_of}
use Rattle.jump_run.proofs.crew.slice.Given as goal

abbrev pub invariant-loop-i : goal.invariant-loop-i
invariant-loop-i l = record {
  room : vec_capacity l.slices ≡ 64;
  len : vec_len l.slices ≡ l.i;
  each : l.slices.items ≡ map (slice_of l.ticks) (take l.i l.plans);
}
