use Rattle.std.proofs.Common.{take}
use Rattle.std.specs.Prelude.{flat_map}
use Rattle.figure_text.specs.Summary.{summary_view_of, task_row}
use Rattle.draft.specs.Draft.{Adds}
use Rattle.figure_text.proofs.summary.put_tasks_of.Given as goal

abbrev pub invariant-loop-task : goal.invariant-loop-task
invariant-loop-task l = Adds l.initial.out l.out (flat_map (task_row l.domain (summary_view_of l.of)) (take l.task-index l.of.tasks.now))
