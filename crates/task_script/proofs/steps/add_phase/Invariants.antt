use Rattle.std.proofs.Common.{◌≡◌, ◌++◌}
use Rattle.task_script.specs.private.Steps.{steps_of_phase}
use Rattle.task_script.proofs.steps.add_phase.Given as goal

abbrev pub invariant-loop-event : goal.invariant-loop-event
invariant-loop-event l = l.steps.items ≡ l.fn.steps.items ++ steps_of_phase l.phase l.event
