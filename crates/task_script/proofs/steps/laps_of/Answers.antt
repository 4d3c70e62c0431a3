use Rattle.std.proofs.Common.{arith}
use Rattle.task_script.proofs.steps.laps_of.Goals as goal

pub overflow_add-event : goal.overflow_add-event
overflow_add-event c =
    let most = c.requires.phase.most_events in
    let within = c.requires.within in
    omega (arith, most, within)
