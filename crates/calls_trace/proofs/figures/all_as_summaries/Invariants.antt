use Rattle.std.proofs.Common.{◌≡◌, ◌≤◌, length, map, take, vec_capacity}
use Rattle.std.specs.Prelude.{All}
use Rattle.figure_text.specs.Summary as summaries
use Rattle.calls_trace.specs.private.Counting.{counted_as}
use Rattle.calls_trace.proofs.figures.all_as_summaries.Given as goal

abbrev pub invariant-loop-one : goal.invariant-loop-one
invariant-loop-one l = record {
  views : map summaries.summary_view_of l.written.items ≡ map counted_as (take l.one-index l.counted);
  short : All summaries.IsShortSummary l.written.items;
  machine : All summaries.IsOfMachine l.written.items;
  count : length l.written.items ≡ l.one-index;
  room : length l.counted ≤ vec_capacity l.written;
}
