use Rattle.std.proofs.Common.{arith}
use Rattle.std.proofs.lemmas.Grind.{common_steps}
use Rattle.domain_run.proofs.transition.make.Goals as goal

pub slide-requires-clause-lasted : goal.slide-requires-clause-lasted
slide-requires-clause-lasted c = grind (arith, common_steps)

pub slide-requires-clause-high : goal.slide-requires-clause-high
slide-requires-clause-high c = grind (arith, common_steps)

pub slide-requires-clause-worked : goal.slide-requires-clause-worked
slide-requires-clause-worked c = grind (arith, common_steps)

pub slide-requires-clause-ready : goal.slide-requires-clause-ready
slide-requires-clause-ready c = grind (arith, common_steps)

pub slide-requires-clause-sound : goal.slide-requires-clause-sound
slide-requires-clause-sound c = grind (arith, common_steps)

pub returns-clause-task : goal.returns-clause-task
returns-clause-task c = grind (arith, common_steps)

pub returns-clause-sound : goal.returns-clause-sound
returns-clause-sound c = grind (arith, common_steps)

pub returns-clause-was_on_cpu : goal.returns-clause-was_on_cpu
returns-clause-was_on_cpu c = grind (arith, common_steps)

pub returns-clause-deferring : goal.returns-clause-deferring
returns-clause-deferring c = grind (arith, common_steps)

pub returns-clause-none : goal.returns-clause-none
returns-clause-none c = grind (arith, common_steps)

pub act-deferring-requires-clause-sound : goal.act-deferring-requires-clause-sound
act-deferring-requires-clause-sound c = grind (arith, common_steps)

pub act-deferring-requires-clause-may : goal.act-deferring-requires-clause-may
act-deferring-requires-clause-may c = grind (arith, common_steps)

pub returns-2-clause-task : goal.returns-2-clause-task
returns-2-clause-task c = grind (arith, common_steps)

pub returns-2-clause-sound : goal.returns-2-clause-sound
returns-2-clause-sound c = grind (arith, common_steps)

pub returns-2-clause-was_on_cpu : goal.returns-2-clause-was_on_cpu
returns-2-clause-was_on_cpu c = grind (arith, common_steps)

pub returns-2-clause-deferring : goal.returns-2-clause-deferring
returns-2-clause-deferring c = grind (arith, common_steps)

pub returns-2-clause-none : goal.returns-2-clause-none
returns-2-clause-none c = grind (arith, common_steps)
