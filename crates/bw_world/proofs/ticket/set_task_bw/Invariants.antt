use Rattle.std.proofs.Common.{◌≡◌, map, ◌++◌, take, drop}
use Rattle.bw_world.specs.DomainStep.{task_with_bw}
use Rattle.bw_world.proofs.ticket.set_task_bw.Given as goal

-- the tasks before the index are changed, the others are as they were
abbrev pub invariant-loop-t : goal.invariant-loop-t
invariant-loop-t l = l.t-items ≡ map (task_with_bw l.id l.bw) (take l.t-index l.initial.t-items) ++ drop l.t-index l.initial.t-items
