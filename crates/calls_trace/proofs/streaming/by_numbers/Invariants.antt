use Rattle.std.proofs.Common.{◌≡◌, ◌≤◌, length, map, take, vec_capacity}
use Rattle.calls_trace.specs.DomainEvents.{admitted_with_params, no_params}
use Rattle.calls_trace.proofs.streaming.by_numbers.Given as goal

abbrev pub invariant-loop-number : goal.invariant-loop-number
invariant-loop-number l = record {
  tasks : l.tasks.items ≡ map (admitted_with_params no_params) (take l.number-index l.listed);
  room : length l.listed ≤ vec_capacity l.tasks;
}
