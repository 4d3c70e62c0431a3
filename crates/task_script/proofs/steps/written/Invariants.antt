use Rattle.std.proofs.Common.{◌≡◌}
use Rattle.task_script.specs.private.Steps.{steps_of_phases}
use Rattle.task_script.proofs.steps.written.Given as goal

abbrev pub invariant-loop-phase : goal.invariant-loop-phase
invariant-loop-phase l = l.steps.items ≡ steps_of_phases l.phases l.phase
