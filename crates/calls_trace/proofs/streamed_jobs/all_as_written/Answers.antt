use Rattle.std.proofs.Common.{map, ap, ◌∙◌, arith}
use Rattle.std.proofs.lemmas.List.{length_push, take_all}
use Rattle.figure_text.specs.Jobs.{jobs_view_of}
use Rattle.calls_trace.specs.private.Summed.{named_as}
use Rattle.calls_trace.proofs.Texts.{views_more}
use Rattle.calls_trace.proofs.streamed_jobs.all_as_written.Goals as goal

pub loop-one-preserved : goal.loop-one-preserved
loop-one-preserved c =
    let i = c.loop-one.invariant in
    let was = c.loop-one.written.items in
    let one = c.as_jobs.result in
    rw c.push_reserved.ensures.items (record {
      views = views_more jobs_view_of named_as was one c.args.named.now c.loop-one.one-index c.one-item.result c.loop-one-test.true c.one-item.is c.as_jobs.ensures i.views;
      count = omega (arith, i.count, length_push was one);
      room = omega (arith, i.room, c.push_reserved.ensures.capacity);
    })

pub returns : goal.returns
returns c = c.loop-one.invariant.views ∙ ap (map named_as) (take_all c.loop-one.one-index c.args.named.now c.loop-one-test.false)
