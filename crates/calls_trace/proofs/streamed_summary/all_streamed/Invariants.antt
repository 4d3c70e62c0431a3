use Rattle.std.proofs.Common.{◌≡◌, ◌≤◌, length, map, take, vec_capacity}
use Rattle.calls_trace.specs.DomainEvents.{summary_view}
use Rattle.calls_trace.specs.private.Counting.{counted_as}
use Rattle.calls_trace.proofs.streamed_summary.all_streamed.Given as goal

abbrev pub invariant-loop-place : goal.invariant-loop-place
invariant-loop-place l = record {
  views : map counted_as l.all.items ≡ map summary_view (take l.place l.histories);
  count : length l.all.items ≡ l.place;
  room : length l.histories ≤ vec_capacity l.all;
}
