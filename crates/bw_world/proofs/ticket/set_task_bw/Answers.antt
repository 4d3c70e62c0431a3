use Rattle.bw_world.specs.DomainStep.{task_with_bw}
use Rattle.bw_world.proofs.Mapped.{map_written}
use Rattle.bw_world.proofs.ticket.set_task_bw.Goals as goal

pub loop-t-preserved : goal.loop-t-preserved
loop-t-preserved c =
    map_written (task_with_bw c.args.id c.args.bw) c.deref_mut-t-items.result.now c.loop-t.t-items c.loop-t.t-index _ _ c.loop-t-test.true c.loop-t.auto.t-items c.loop-t.invariant c.set_if_task.ensures
