use Rattle.std.proofs.Common.{◌≡◌, ◌≤◌, length, map, take, vec_capacity}
use Rattle.figure_text.specs.Jobs.{jobs_view_of}
use Rattle.calls_trace.specs.private.Summed.{named_as}
use Rattle.calls_trace.proofs.streamed_jobs.all_as_written.Given as goal

abbrev pub invariant-loop-one : goal.invariant-loop-one
invariant-loop-one l = record {
  views : map jobs_view_of l.written.items ≡ map named_as (take l.one-index l.named);
  count : length l.written.items ≡ l.one-index;
  room : length l.named ≤ vec_capacity l.written;
}
