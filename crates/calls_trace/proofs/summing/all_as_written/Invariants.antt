use Rattle.std.proofs.Common.{◌≡◌, ◌≤◌, length, map, take, vec_capacity}
use Rattle.std.specs.Prelude.{All}
use Rattle.figure_text.specs.Summary as summaries
use Rattle.calls_trace.specs.private.Summed.{summed_as}
use Rattle.calls_trace.proofs.summing.all_as_written.Given as goal

abbrev pub invariant-loop-run : goal.invariant-loop-run
invariant-loop-run l = record {
  views : map summaries.summary_view_of l.written.items ≡ map summed_as (take l.run-index l.runs);
  short : All summaries.IsShortSummary l.written.items;
  machine : All summaries.IsOfMachine l.written.items;
  count : length l.written.items ≡ l.run-index;
  room : length l.runs ≤ vec_capacity l.written;
}
