use Rattle.std.proofs.Common.{◌<◌, ◌+◌, List, length, take, subst, sym, arith}
use Rattle.domain_run.specs.declared.mark.TaskSeen.{TaskSeen}
use Rattle.repeat_run.specs.Seen.{AreTasksSeen}
use Rattle.repeat_run.proofs.Noting.{seen_more}
use Rattle.repeat_run.proofs.seeing.see_all.Goals as goal

pub loop-place-preserved : goal.loop-place-preserved
loop-place-preserved c =
    let tasks = c.args.state.now.tasks in
    let place = c.loop-place.place in
    let within : place < length tasks = omega (arith, c.loop-place-test.true, c.listed-place-end.ensures) in
    subst (λ (xs : List TaskSeen). AreTasksSeen xs (take (place + 1) tasks)) (sym c.in-Ok.ensures.items)
    (seen_more place tasks c.loop-place.seen.items c.seen_at.result within c.loop-place.invariant c.seen_at.ensures)
