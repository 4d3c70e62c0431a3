use Rattle.std.proofs.Common.{◌≡◌, ◌+◌, ◌<◌, ◌^◌, length}
use Rattle.counted_io.specs.Sides.{inner_of, faults_of}
use Rattle.run_figures.specs.Lines.{numbered_lines}
use Rattle.figure_text.specs.Jobs.{job_line}
use Rattle.figure_text.proofs.Sending.{IsUnderWay}
use Rattle.figure_text.proofs.jobs.put_task.Given as goal

-- the lines so far are added, and those of the jobs that are left are to come
abbrev pub invariant-jobs : goal.invariant-jobs
invariant-jobs g l = record {
  under : IsUnderWay (g.W.Write.contents (inner_of l.fn.writer)) (g.W.Write.contents (inner_of l.writer)) l.fn.out l.out (numbered_lines (job_line l.name l.task.number) 0 l.task.jobs) (numbered_lines (job_line l.name l.task.number) l.place l.jobs);
  few : l.place + length l.jobs < 2 ^ 64;
  faults : faults_of l.writer ≡ faults_of l.fn.writer;
}

abbrev pub decreases-jobs : goal.decreases-jobs
decreases-jobs g l = length l.jobs
