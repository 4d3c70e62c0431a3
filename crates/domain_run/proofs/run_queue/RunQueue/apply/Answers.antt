use Rattle.std.proofs.Common.{arith}
use Rattle.std.proofs.lemmas.Grind.{common_steps}
use Rattle.domain_run.proofs.run_queue.RunQueue.apply.Goals as goal

pub track-requires-clause-held : goal.track-requires-clause-held
track-requires-clause-held c = grind (arith, common_steps)

pub track-requires-clause-fits : goal.track-requires-clause-fits
track-requires-clause-fits c = grind (arith, common_steps)

pub take_in-requires-clause-cpu : goal.take_in-requires-clause-cpu
take_in-requires-clause-cpu c = grind (arith, common_steps)

pub take_in-requires-clause-room : goal.take_in-requires-clause-room
take_in-requires-clause-room c = grind (arith, common_steps)

pub take_in-requires-clause-numbered : goal.take_in-requires-clause-numbered
take_in-requires-clause-numbered c = grind (arith, common_steps)

pub take_in-requires-clause-homed : goal.take_in-requires-clause-homed
take_in-requires-clause-homed c = grind (arith, common_steps)

pub returns-then-before-after : goal.returns-then-before-after
returns-then-before-after c = grind (arith, common_steps)

pub returns-else-before-after : goal.returns-else-before-after
returns-else-before-after c = grind (arith, common_steps)
