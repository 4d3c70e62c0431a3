use Rattle.std.proofs.lemmas.Result.{err_from_is_err_and}
use Rattle.calls_text.specs.private.Reading.{many_at, event_first_at}
use Rattle.calls_text.proofs.Many.{goes_on, ends, stops, is_full}
use Rattle.calls_text.proofs.script_text.events_of.Goals as goal

pub returns-in_err-event : goal.returns-in_err-event
returns-in_err-event c =
    let p = err_from_is_err_and c.from_residual.result c.from_residual.ensures.1 in
    rw (p.1, p.2) (stops event_first_at c.in_err-event.field-0.0 c.loop.events.items 64 c.loop.counter c.loop.rest.now (many_at event_first_at 64 c.args.text.now) c.loop-test.true c.in_err-event.ensures c.loop.invariant)

pub returns-in-None : goal.returns-in-None
returns-in-None c =
    rw c.in_ok-put.ensures.items (ends event_first_at c.loop.events.items 64 c.loop.counter c.loop.rest.now c.in_ok-event.event (many_at event_first_at 64 c.args.text.now) c.loop-test.true (rw c.in-None.is at c.in_ok-event.ensures) c.loop.invariant)

pub loop-preserved : goal.loop-preserved
loop-preserved c =
    rw c.in_ok-put.ensures.items (goes_on event_first_at c.loop.events.items 64 c.loop.counter c.loop.rest.now c.in_ok-event.event c.in-Some.after.now (many_at event_first_at 64 c.args.text.now) c.loop-test.true (rw c.in-Some.is at c.in_ok-event.ensures) c.loop.invariant)

pub returns : goal.returns
returns c = is_full event_first_at c.loop.events.items 64 c.loop.counter c.loop.rest.now (many_at event_first_at 64 c.args.text.now) c.loop-test.false c.loop.invariant
