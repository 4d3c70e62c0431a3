use Rattle.std.proofs.Common.{◌-◌, length, arith}
use Rattle.due_times.proofs.Orders.{before_next}
use Rattle.due_times.proofs.timers.next_leaf.Goals as goal

pub returns-clause-following : goal.returns-clause-following
returns-clause-following c = λ k d h.
    let last = length c.args.order.now - 1 in
    let before = before_next c.args.order.now last c.requires.rising (omega (arith, c.if-count-eq0.false)) k d h in
    omega (arith, before, c.from.ensures)
