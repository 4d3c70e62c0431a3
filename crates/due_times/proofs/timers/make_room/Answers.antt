use Rattle.std.proofs.Common.{◌≡◌, ◌*◌, length, get_or, ap, ◌∙◌, arith}
use Rattle.std.proofs.lemmas.List.{get_or_default}
use Rattle.due_times.specs.Timers.{times_by_place}
use Rattle.due_times.proofs.Descending.{some_four}
use Rattle.due_times.proofs.Orders.{wider_times}
use Rattle.due_times.proofs.timers.make_room.Goals as goal

pub returns-then-len-clause-times : goal.returns-then-len-clause-times
returns-then-len-clause-times c =
    let times = c.args.timer_tree.now in
    let order = c.args.order.now in
    ap (λ ts. times_by_place ts order.items) c.widen.ensures ∙ wider_times times order.items order.cap (3 * length times) c.requires.kept

pub returns-else-len-clause-room : goal.returns-else-len-clause-room
returns-else-len-clause-room c = λ k d h.
    let order = c.pack.new.order.items in
    let leaf : get_or order k d ≡ k = get_or_default order k d 0 h ∙ c.pack.ensures.packed k h in
    let some = some_four (length c.args.timer_tree.now) c.requires.kept.size in
    omega (arith, leaf, h, some, c.pack.ensures.count, c.pack.ensures.leaves, c.if-len.false, c.len.ensures, c.len-2.ensures, c.args.order.now.ok.0)
