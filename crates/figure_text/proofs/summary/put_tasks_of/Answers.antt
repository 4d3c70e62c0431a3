use Rattle.std.proofs.Common.{ap}
use Rattle.std.specs.Prelude.{flat_map}
use Rattle.std.proofs.lemmas.List.{take_all}
use Rattle.figure_text.specs.Summary.{summary_view_of, task_row}
use Rattle.draft.proofs.CallerLemmas.{more_lines, as_text}
use Rattle.figure_text.proofs.summary.put_tasks_of.Goals as goal

pub loop-task-preserved : goal.loop-task-preserved
loop-task-preserved c =
    more_lines (task_row c.args.domain (summary_view_of c.args.of.now)) c.args.of.now.tasks.now c.loop-task.task-index _ c.args.out.now c.loop-task.out c.put_task.new.out c.loop-task-test.true c.loop-task.invariant c.put_task.ensures

pub returns : goal.returns
returns c =
    as_text c.args.out.now c.loop-task.out _ _
    (ap (λ tasks. flat_map (task_row c.args.domain (summary_view_of c.args.of.now)) tasks) (take_all c.loop-task.task-index c.args.of.now.tasks.now c.loop-task-test.false))
    c.loop-task.invariant
