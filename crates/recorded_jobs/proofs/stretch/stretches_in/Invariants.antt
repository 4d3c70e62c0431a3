use Rattle.std.proofs.Common.{◌≡◌, ◌≤◌, length, drop, vec_len}
use Rattle.recorded_jobs.specs.private.After.{AreStretchesAfter}
use Rattle.recorded_jobs.proofs.stretch.stretches_in.Given as goal

abbrev pub invariant-loop-i : goal.invariant-loop-i
invariant-loop-i l = record {
  found : AreStretchesAfter l.last l.next.items l.stretches.items (drop l.i l.moments);
  within : l.i ≤ length l.moments;
  cpus : vec_len l.next ≡ 65536;
}

abbrev pub decreases-loop-i : goal.decreases-loop-i
decreases-loop-i l = l.i
