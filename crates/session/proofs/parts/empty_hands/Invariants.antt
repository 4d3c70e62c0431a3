use Rattle.std.proofs.Common.{◌≡◌, ◌≤◌, true, [], length, map, replicate}
use Rattle.std.specs.Prelude.{vec_capacity, is_some}
use Rattle.bw_gate.specs.Pieces.{GateId}
use Rattle.session.specs.private.Parts.{AreHands, HaveRoom, AreBlanksOf}
use Rattle.session.proofs.parts.empty_hands.Given as goal

abbrev pub invariant-loop : goal.invariant-loop
invariant-loop l = record {
  some : map is_some l.hands.items ≡ replicate l.counter true;
  room : HaveRoom l.domains l.hands.items;
  hands : (gate : GateId) → AreBlanksOf gate l.fn.pool.items → AreHands gate [] l.hands.items;
  pool : (gate : GateId) → AreBlanksOf gate l.fn.pool.items → AreBlanksOf gate l.pool.items;
  count : length l.hands.items ≡ l.counter;
  capacity : l.clients ≤ vec_capacity l.hands;
}
