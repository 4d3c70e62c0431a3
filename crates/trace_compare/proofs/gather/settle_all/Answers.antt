use Rattle.std.proofs.Common.{◌<◌, ◌∙◌, length, reverse, ap, arith}
use Rattle.trace_compare.specs.Runs.{runs_of}
use Rattle.trace_compare.proofs.OneMore.{settled_more}
use Rattle.trace_compare.proofs.gather.settle_all.Goals as goal

pub loop-j-preserved : goal.loop-j-preserved
loop-j-preserved c =
    let within : c.loop-j.j < length c.args.model.now = omega arith in
    let also : c.loop-j.j < length c.args.recorded.now = omega arith in
    settled_more c.args.noise c.args.model.now c.args.recorded.now c.loop-j.j c.loop-j.tasks.items c.push.new.self.items c.in_ok-settle_both.field-0 c.index-model-j.result c.index-recorded-j.result c.loop-j.invariant c.in_ok-push.ensures.items within also c.index-model-j.is c.index-recorded-j.is
    (c.in_ok-settle_both.ensures.model ∙ ap (λ xs. runs_of c.args.noise (reverse xs)) c.as_slice.ensures.value)
    (c.in_ok-settle_both.ensures.recorded ∙ ap (λ xs. runs_of c.args.noise (reverse xs)) c.as_slice-in-loop-j.ensures.value)
    c.in_ok-settle_both.ensures.sound
