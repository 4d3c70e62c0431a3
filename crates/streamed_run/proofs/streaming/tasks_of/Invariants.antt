use Rattle.std.proofs.Common.{◌≡◌, ◌≤◌, length, map, take, vec_capacity}
use Rattle.run_figures.specs.declared.run.Admitted.{Admitted}
use Rattle.streamed_run.proofs.streaming.tasks_of.Given as goal

abbrev pub invariant-loop-number : goal.invariant-loop-number
invariant-loop-number l = record {
  tasks : map (λ (t : Admitted). t.number) l.tasks.items ≡ take l.number-index l.number-items;
  room : length l.number-items ≤ vec_capacity l.tasks;
}
