use Rattle.std.proofs.Common.{◌≡◌, drop}
use Rattle.std.specs.Prelude.{flat_map}
use Rattle.counted_io.specs.Sides.{inner_of, faults_of}
use Rattle.switch_text.specs.Names.{name_of_task}
use Rattle.figure_text.specs.Jobs.{task_job_lines}
use Rattle.figure_text.proofs.Sending.{IsUnderWay}
use Rattle.figure_text.proofs.jobs.put_domain.Given as goal

-- the lines of the tasks so far are added, and those of the others are to come
abbrev pub invariant-tasks : goal.invariant-tasks
invariant-tasks g l = record {
  under : IsUnderWay (g.W.Write.contents (inner_of l.fn.writer)) (g.W.Write.contents (inner_of l.writer)) l.fn.out l.out (flat_map (task_job_lines (name_of_task l.domain.names.now)) l.domain.tasks.now) (flat_map (task_job_lines (name_of_task l.domain.names.now)) (drop l.task-index l.domain.tasks.now));
  faults : faults_of l.writer ≡ faults_of l.fn.writer;
}
