use Rattle.std.proofs.Common.{◌≡◌, ◌<◌, length, ◌∙◌, arith}
use Rattle.std.proofs.lemmas.List.{length-set}
use Rattle.switch_text.specs.private.EventSlicing.{switches_part}
use Rattle.switch_text.proofs.SliceFronts.{fronts_set}
use Rattle.switch_text.proofs.event_slices.run_fronts.Goals as goal

pub runs-preserved : goal.runs-preserved
runs-preserved g c =
    let xs = c.args.slices.now in
    let i = c.runs.i in
    let runs = c.runs.runs in
    let long : length runs ≡ 8 = c.runs.invariant.long in
    let inside : i < length runs = omega (arith, long, c.runs-test.true, c.requires.few) in
    record {
      long = length-set runs i c.run_front.result ∙ long;
      are = fronts_set (λ x. switches_part (g.S.EventSlices.sliced x)) c.args.cut xs runs i c.index-slices-i.result c.run_front.result inside (omega (arith, c.runs-test.true)) c.runs.invariant.are c.index-slices-i.is c.run_front.ensures.front;
    }
