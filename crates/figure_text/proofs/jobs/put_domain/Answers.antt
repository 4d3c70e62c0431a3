use Rattle.std.proofs.Common.{◌≡◌, ℕ, ◌+◌, List, ◌++◌, ap, ◌∙◌, subst, drop}
use Rattle.std.specs.Prelude.{flat_map}
use Rattle.counted_io.specs.Sides.{inner_of}
use Rattle.run_figures.specs.Lines.{numbered_lines}
use Rattle.figure_text.specs.Jobs.{job_line, task_job_lines}
use Rattle.switch_text.specs.Names.{name_of_task}
use Rattle.figure_text.specs.private.Outgoing.{Puts, Stops}
use Rattle.figure_text.proofs.Sending.{next_piece, goes_on, stops_there, anyway}
use Rattle.figure_text.proofs.jobs.put_domain.Goals as goal

pub returns-in_err-put_task-clause-err : goal.returns-in_err-put_task-clause-err
returns-in_err-put_task-clause-err g c =
    let before = g.W.Write.contents (inner_of c.args.writer.now) in
    let mid = g.W.Write.contents (inner_of c.tasks.writer) in
    let after = g.W.Write.contents (inner_of c.put_task.new.writer) in
    let names = name_of_task c.args.domain.now.names.now in
    let tasks = c.args.domain.now.tasks.now in
    let i = c.tasks.task-index in
    let task = c.task-item.result in
    let text = flat_map (task_job_lines names) tasks in
    let left = flat_map (task_job_lines names) (drop i tasks) in
    let rest = flat_map (task_job_lines names) (drop (i + 1) tasks) in
    let next : left ≡ task_job_lines names task ++ rest = next_piece (task_job_lines names) tasks i task c.tasks-test.true c.task-item.is in
    let name : c.name_of.result.now ≡ names task.number = c.name_of.ensures ∙ ap names c.number.ensures in
    let stops = subst (λ (xs : List ℕ). Stops mid after c.tasks.out c.put_task.new.out (numbered_lines (job_line xs task.number) 0 task.jobs)) name c.in_err-put_task.ensures.err in
    anyway c.from_residual.result
    (stops_there before mid after c.args.out.now c.tasks.out c.put_task.new.out text left (task_job_lines names task) rest c.tasks.invariant.under next stops)

pub tasks-preserved : goal.tasks-preserved
tasks-preserved g c =
    let before = g.W.Write.contents (inner_of c.args.writer.now) in
    let mid = g.W.Write.contents (inner_of c.tasks.writer) in
    let after = g.W.Write.contents (inner_of c.put_task.new.writer) in
    let names = name_of_task c.args.domain.now.names.now in
    let tasks = c.args.domain.now.tasks.now in
    let i = c.tasks.task-index in
    let task = c.task-item.result in
    let text = flat_map (task_job_lines names) tasks in
    let left = flat_map (task_job_lines names) (drop i tasks) in
    let rest = flat_map (task_job_lines names) (drop (i + 1) tasks) in
    let next : left ≡ task_job_lines names task ++ rest = next_piece (task_job_lines names) tasks i task c.tasks-test.true c.task-item.is in
    let name : c.name_of.result.now ≡ names task.number = c.name_of.ensures ∙ ap names c.number.ensures in
    let puts = subst (λ (xs : List ℕ). Puts mid after c.tasks.out c.put_task.new.out (numbered_lines (job_line xs task.number) 0 task.jobs)) name c.in_ok-put_task.ensures.ok in
    record {
      under = goes_on before mid after c.args.out.now c.tasks.out c.put_task.new.out text left (task_job_lines names task) rest c.tasks.invariant.under next puts;
      faults = c.in_ok-put_task.ensures.faults ∙ c.tasks.invariant.faults;
    }
