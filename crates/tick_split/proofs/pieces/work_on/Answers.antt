use Rattle.std.proofs.Common.{◌<◌, length, get_or, length-append, arith}
use Rattle.std.proofs.lemmas.List.{get_or_default, length-map, length-take, length-drop}
use Rattle.std.proofs.lemmas.List.Edits.{map_over_more}
use Rattle.tick_split.proofs.pieces.work_on.Goals as goal

pub loop-item-preserved : goal.loop-item-preserved
loop-item-preserved g c =
    let l = c.loop-item in
    let within : l.item-index < length l.items = rw l.invariant (simp (length-append, length-map, length-take, length-drop) (omega (arith, c.loop-item-test.true))) in
    let v = get_or l.items l.item-index c.item-item.result in
    rw c.work.ensures (map_over_more g.W.Work.done c.args.items.now l.items l.item-index v c.loop-item-test.true l.invariant (get_or_default l.items l.item-index c.item-item.result v within))
