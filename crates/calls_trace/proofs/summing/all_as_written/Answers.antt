use Rattle.std.proofs.Common.{arith}
use Rattle.std.proofs.lemmas.List.{length_push}
use Rattle.std.proofs.lemmas.List.Elements.{All-push}
use Rattle.figure_text.specs.Summary as summaries
use Rattle.calls_trace.specs.private.Summed.{summed_as}
use Rattle.calls_trace.proofs.Texts.{views_more}
use Rattle.calls_trace.proofs.summing.all_as_written.Goals as goal

pub loop-run-preserved : goal.loop-run-preserved
loop-run-preserved c =
    let i = c.loop-run.invariant in
    let was = c.loop-run.written.items in
    let one = c.as_summary.result in
    rw c.push_reserved.ensures.items (record {
      views = views_more summaries.summary_view_of summed_as was one c.args.runs.now c.loop-run.run-index c.run-item.result c.loop-run-test.true c.run-item.is c.as_summary.ensures.view i.views;
      short = All-push summaries.IsShortSummary was one i.short c.as_summary.ensures.short;
      machine = All-push summaries.IsOfMachine was one i.machine c.as_summary.ensures.machine;
      count = omega (arith, i.count, length_push was one);
      room = omega (arith, i.room, c.push_reserved.ensures.capacity);
    })
