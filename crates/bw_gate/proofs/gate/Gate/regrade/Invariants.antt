use Rattle.bw_gate.proofs.Races.{HasRacedToChange}
use Rattle.bw_gate.proofs.gate.Gate.regrade.Given as goal

-- the earlier tries were raced
abbrev pub invariant-loop : goal.invariant-loop
invariant-loop g l =
    (goal.iterator-loop g).can_next l.iterator' × (goal.iterator-loop g).is_finite l.iterator'
    × HasRacedToChange l.fn.ticket l.bw l.ticket
