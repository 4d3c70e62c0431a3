use Rattle.std.proofs.Common.{arith}
use Rattle.recorded_scripts.proofs.Steps.{phase_step, phase_none}
use Rattle.recorded_scripts.proofs.script.phases_of.Goals as goal

pub loop-preserved : goal.loop-preserved
loop-preserved c = phase_step c.loop.counter c.loop.rest.now c.in_ok-rest.rest.now c.args.events.now c.loop.phases.items c.take_phase.new.phases.items (omega arith) c.in_ok-rest.ensures.phase c.in_ok-rest.ensures.rest c.loop.invariant

pub returns : goal.returns
returns c = phase_none c.loop.counter c.loop.rest.now c.loop.phases.items _ (omega arith) c.loop.invariant
