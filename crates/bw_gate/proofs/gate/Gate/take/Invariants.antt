use Rattle.bw_gate.proofs.Races.{HasRaced}
use Rattle.bw_gate.proofs.gate.Gate.take.Given as goal

-- the earlier tries were raced
abbrev pub invariant-loop : goal.invariant-loop
invariant-loop g l =
    (goal.iterator-loop g).can_next l.iterator' × (goal.iterator-loop g).is_finite l.iterator'
    × HasRaced l.fn.blank l.domain l.bw l.blank
