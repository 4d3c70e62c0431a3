use Rattle.std.proofs.Common.{map, ap, ◌∙◌, arith}
use Rattle.std.proofs.lemmas.List.{length_push, take_all}
use Rattle.figure_text.specs.Jobs as jobs
use Rattle.calls_trace.specs.private.Summed.{jobs_as}
use Rattle.calls_trace.proofs.Texts.{views_more}
use Rattle.calls_trace.proofs.summing.all_as_jobs.Goals as goal

pub loop-run-preserved : goal.loop-run-preserved
loop-run-preserved c =
    let i = c.loop-run.invariant in
    let was = c.loop-run.written.items in
    let one = c.as_jobs.result in
    rw c.push_reserved.ensures.items (record {
      views = views_more jobs.jobs_view_of jobs_as was one c.args.runs.now c.loop-run.run-index c.run-item.result c.loop-run-test.true c.run-item.is c.as_jobs.ensures i.views;
      count = omega (arith, i.count, length_push was one);
      room = omega (arith, i.room, c.push_reserved.ensures.capacity);
    })

pub returns : goal.returns
returns c = c.loop-run.invariant.views ∙ ap (map jobs_as) (take_all c.loop-run.run-index c.args.runs.now c.loop-run-test.false)
