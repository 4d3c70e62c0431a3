use Rattle.std.proofs.Common.{◌≡◌, ◌≤◌, length, map, take, vec_capacity}
use Rattle.figure_text.specs.Jobs as jobs
use Rattle.calls_trace.specs.private.Summed.{jobs_as}
use Rattle.calls_trace.proofs.summing.all_as_jobs.Given as goal

abbrev pub invariant-loop-run : goal.invariant-loop-run
invariant-loop-run l = record {
  views : map jobs.jobs_view_of l.written.items ≡ map jobs_as (take l.run-index l.runs);
  count : length l.written.items ≡ l.run-index;
  room : length l.runs ≤ vec_capacity l.written;
}
