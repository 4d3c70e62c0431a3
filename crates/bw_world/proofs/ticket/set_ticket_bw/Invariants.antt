use Rattle.std.proofs.Common.{◌≡◌, map, ◌++◌, take, drop}
use Rattle.bw_world.specs.DomainStep.{with_bw}
use Rattle.bw_world.proofs.ticket.set_ticket_bw.Given as goal

-- the tickets before the index are changed, the others are as they were
abbrev pub invariant-loop-t : goal.invariant-loop-t
invariant-loop-t l = l.t-items ≡ map (with_bw l.id l.bw) (take l.t-index l.initial.t-items) ++ drop l.t-index l.initial.t-items
