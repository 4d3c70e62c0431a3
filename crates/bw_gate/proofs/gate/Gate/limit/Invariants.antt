use Rattle.bw_gate.proofs.Races.{HasRacedToLimit}
use Rattle.bw_gate.proofs.gate.Gate.limit.Given as goal

-- the earlier tries were raced
abbrev pub invariant-loop : goal.invariant-loop
invariant-loop g l =
    (goal.iterator-loop g).can_next l.iterator' × (goal.iterator-loop g).is_finite l.iterator'
    × HasRacedToLimit l.fn.blank l.domain l.limit l.blank
