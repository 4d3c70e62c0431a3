use Rattle.std.proofs.Common.{◌≡◌, ◌+◌, ◌-◌, ◌≤◌, length, drop}
use Rattle.trace_compare.specs.Runs.{InTurn}
use Rattle.trace_compare.specs.Pairs.{fits, partners, count_matched}
use Rattle.trace_compare.proofs.pairs.matched_if.Given as goal

abbrev pub invariant-loop-i : goal.invariant-loop-i
invariant-loop-i l = record {
  counted : l.count + count_matched (partners (fits l.within l.shift) (drop l.i l.ms) (drop l.j l.rs)) ≡ count_matched (partners (fits l.within l.shift) l.ms l.rs);
  model_turn : InTurn (drop l.i l.ms);
  recorded_turn : InTurn (drop l.j l.rs);
  few : l.count ≤ l.i;
  i_within : l.i ≤ length l.ms;
  j_within : l.j ≤ length l.rs;
}

abbrev pub decreases-loop-i : goal.decreases-loop-i
decreases-loop-i l = (length l.ms - l.i) + (length l.rs - l.j)
