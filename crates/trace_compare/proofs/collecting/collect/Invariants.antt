use Rattle.std.proofs.Common.{◌≡◌, ◌≤◌, length, drop, vec_len}
use Rattle.trace_compare.specs.private.Behind.{AreRunsBehind}
use Rattle.trace_compare.proofs.collecting.collect.Given as goal

abbrev pub invariant-loop-i : goal.invariant-loop-i
invariant-loop-i l = record {
  behind : AreRunsBehind l.next.items l.runs.items (drop l.i l.steps);
  within : l.i ≤ length l.steps;
  cpus : vec_len l.next ≡ 65536;
  many : vec_len l.runs ≡ l.tasks;
}

abbrev pub decreases-loop-i : goal.decreases-loop-i
decreases-loop-i l = l.i
