use Rattle.calls_text.specs.private.Reading.{many_at, phase_first_at}
use Rattle.calls_text.proofs.Many.{goes_on, ends, stops, is_full}
use Rattle.calls_text.proofs.script_text.phases_of.Goals as goal

pub returns-in-Err : goal.returns-in-Err
returns-in-Err c = stops phase_first_at c.in-Err.e c.loop.phases.items 64 c.loop.counter c.loop.rest.now (many_at phase_first_at 64 c.args.text.now) c.loop-test.true c.in-Err.ensures c.loop.invariant

pub returns-in-None : goal.returns-in-None
returns-in-None c =
    rw c.in_default.ensures.items (ends phase_first_at c.loop.phases.items 64 c.loop.counter c.loop.rest.now c.in-Ok.found.0 (many_at phase_first_at 64 c.args.text.now) c.loop-test.true (rw c.in-None.is at c.in-Ok.ensures) c.loop.invariant)

pub loop-preserved : goal.loop-preserved
loop-preserved c =
    rw c.in_default.ensures.items (goes_on phase_first_at c.loop.phases.items 64 c.loop.counter c.loop.rest.now c.in-Ok.found.0 c.in-Some.after.now (many_at phase_first_at 64 c.args.text.now) c.loop-test.true (rw c.in-Some.is at c.in-Ok.ensures) c.loop.invariant)

pub returns : goal.returns
returns c = is_full phase_first_at c.loop.phases.items 64 c.loop.counter c.loop.rest.now (many_at phase_first_at 64 c.args.text.now) c.loop-test.false c.loop.invariant
