use Rattle.std.proofs.Common.{◌≡◌, ◌+◌, ◌-◌, ◌≤◌, ◌<◌, ◌++◌, length, drop, All}
use Rattle.trace_compare.specs.Runs.{InTurn, IsShort}
use Rattle.trace_compare.specs.Matched.{ArePartnersShort}
use Rattle.trace_compare.specs.Pairs.{fits, partners, left_over}
use Rattle.trace_compare.proofs.pairs.match_runs.Given as goal

abbrev pub invariant-loop-i : goal.invariant-loop-i
invariant-loop-i l = record {
  told : l.partners.items ++ partners (fits l.within l.shift) (drop l.i l.ms) (drop l.j l.rs) ≡ partners (fits l.within l.shift) l.ms l.rs;
  left : l.left.items ++ left_over (fits l.within l.shift) (drop l.i l.ms) (drop l.j l.rs) ≡ left_over (fits l.within l.shift) l.ms l.rs;
  short : ArePartnersShort l.partners.items;
  left_short : All IsShort l.left.items;
  model_turn : InTurn (drop l.i l.ms);
  recorded_turn : InTurn (drop l.j l.rs);
  i_within : l.i ≤ length l.ms;
  j_within : l.j ≤ length l.rs;
}

abbrev pub decreases-loop-i : goal.decreases-loop-i
decreases-loop-i l = (length l.ms - l.i) + (length l.rs - l.j)

abbrev pub invariant-rest : goal.invariant-rest
invariant-rest l = record {
  told : l.partners.items ++ partners (fits l.within l.fn.shift) (drop l.i l.ms) (drop l.j l.rs) ≡ partners (fits l.within l.fn.shift) l.ms l.rs;
  left : l.left.items ++ left_over (fits l.within l.fn.shift) (drop l.i l.ms) (drop l.j l.rs) ≡ left_over (fits l.within l.fn.shift) l.ms l.rs;
  short : ArePartnersShort l.partners.items;
  left_short : All IsShort l.left.items;
  ended : l.i < length l.ms → length l.rs ≤ l.j;
  i_within : l.i ≤ length l.ms;
  j_within : l.j ≤ length l.rs;
}

abbrev pub decreases-rest : goal.decreases-rest
decreases-rest l = length l.ms - l.i
