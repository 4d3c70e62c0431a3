use Rattle.std.proofs.Common.{◌≡◌, ◌≤◌, length, map, take, vec_capacity}
use Rattle.calls_trace.specs.DomainEvents.{jobs_view}
use Rattle.calls_trace.specs.private.Summed.{named_as}
use Rattle.calls_trace.proofs.streamed_jobs.all_jobs_streamed.Given as goal

abbrev pub invariant-loop-place : goal.invariant-loop-place
invariant-loop-place l = record {
  views : map named_as l.all.items ≡ map jobs_view (take l.place l.histories);
  count : length l.all.items ≡ l.place;
  room : length l.histories ≤ vec_capacity l.all;
  same : l.streamed ≡ l.initial.streamed;
}
