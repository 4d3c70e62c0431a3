use Rattle.std.proofs.Common.{◌≡◌, ◌≤◌, length, map, take, vec_capacity}
use Rattle.calls_trace.specs.DomainEvents.{admitted_with_params}
use Rattle.calls_trace.specs.private.Replaying.{given_in}
use Rattle.calls_trace.proofs.figures.tasks_of.Given as goal

abbrev pub invariant-loop-number : goal.invariant-loop-number
invariant-loop-number l = record {
  tasks : l.tasks.items ≡ map (admitted_with_params (given_in l.given)) (take l.number-index l.number-items);
  room : length l.number-items ≤ vec_capacity l.tasks;
}
