use Rattle.std.proofs.Common.{◌/◌, ◌%◌}
use Rattle.recorded_workload.specs.Workload.{last_advance}
use Rattle.recorded_workload.proofs.Numbered.{advance_step, advance_last}
use Rattle.recorded_workload.proofs.building.push_advances.Goals as goal

pub loop-preserved : goal.loop-preserved
loop-preserved c = advance_step (c.args.ticks / 60000000) c.loop.counter (last_advance (c.args.ticks % 60000000)) c.loop.entries.items c.push_call.new.entries.items _ c.loop-test.true c.in_ok-push_call.ensures.added c.loop.invariant

pub returns-clause-added : goal.returns-clause-added
returns-clause-added c = advance_last (c.args.ticks / 60000000) c.loop.counter (last_advance (c.args.ticks % 60000000)) c.loop.entries.items c.push_last.new.entries.items _ c.loop-test.false c.in_ok-push_last.ensures.added c.loop.invariant
