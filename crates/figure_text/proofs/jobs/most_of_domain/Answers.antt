use Rattle.std.proofs.Common.{◌≤◌, length, ap, arith, sym, subst}
use Rattle.std.proofs.lemmas.List.{take_all}
use Rattle.run_figures.specs.TaskJobsView.{TaskJobsView}
use Rattle.switch_text.specs.Names.{name_of_task}
use Rattle.figure_text.specs.Jobs.{task_job_lines}
use Rattle.figure_text.specs.Countable.{count_of_tasks}
use Rattle.figure_text.proofs.Lengths.{one_more_piece, all_pieces, one_more_sum}
use Rattle.figure_text.proofs.jobs.most_of_domain.Goals as goal

pub tasks-preserved : goal.tasks-preserved
tasks-preserved c =
    let names = name_of_task c.args.domain.now.names.now in
    let tasks = c.args.domain.now.tasks.now in
    let i = c.tasks.task-index in
    let task = c.task-item.result in
    record {
      most = λ small.
          let before = c.tasks.invariant.most (omega (arith, c.saturating_add-most.ensures, small)) in
          let one = c.most_of_task.ensures.most (omega (arith, c.saturating_add-most.ensures, small)) in
          let more = one_more_piece (task_job_lines names) tasks i task c.tasks-test.true c.task-item.is in
          omega (arith, before, one, more, c.saturating_add-most.ensures, small);
      usual = λ short.
          let before = c.tasks.invariant.usual short in
          let name = subst (λ (t : TaskJobsView). length (names t.number) ≤ 256) (sym c.task-item.is) (short i task c.tasks-test.true) in
          let one = c.most_of_task.ensures.usual name in
          let more = one_more_sum (λ (t : TaskJobsView). length t.jobs) tasks i task c.tasks-test.true c.task-item.is in
          omega (arith, before, one, more, c.saturating_add-most.ensures);
    }

pub returns-clause-most : goal.returns-clause-most
returns-clause-most c = λ small.
    let lines = task_job_lines (name_of_task c.args.domain.now.names.now) in
    let all = c.tasks.invariant.most small in
    omega (arith, all, ap length (all_pieces lines c.args.domain.now.tasks.now c.tasks.task-index c.tasks-test.false))

pub returns-clause-usual : goal.returns-clause-usual
returns-clause-usual c = λ short.
    let all = c.tasks.invariant.usual short in
    omega (arith, all, ap count_of_tasks (take_all c.tasks.task-index c.args.domain.now.tasks.now c.tasks-test.false))
