use Rattle.std.proofs.Common.{◌≡◌, ◌<◌, length, ◌∙◌, arith}
use Rattle.std.proofs.lemmas.List.{length-set}
use Rattle.switch_text.proofs.EventFronts.{logged_fronts_set}
use Rattle.switch_text.proofs.event_slices.logged_fronts.Goals as goal

pub runs-preserved : goal.runs-preserved
runs-preserved g c =
    let f = g.S.EventSlices.sliced in
    let xs = c.args.slices.now in
    let i = c.runs.i in
    let logged = c.runs.logged in
    let long : length logged ≡ 8 = c.runs.invariant.long in
    let inside : i < length logged = omega (arith, long, c.runs-test.true, c.requires.few) in
    record {
      long = length-set logged i c.logged_front.result ∙ long;
      are = logged_fronts_set f c.args.cut xs logged i c.index-slices-i.result c.logged_front.result inside (omega (arith, c.runs-test.true)) c.runs.invariant.are c.index-slices-i.is c.logged_front.ensures.front;
    }
