use Rattle.std.proofs.Common.{◌∷◌, ◌-◌, length, take, drop}
use Rattle.task_script.specs.declared.phase.Event.TheVariants.{Run}
use Rattle.calls_text.specs.Spelling.{event_text}
use Rattle.draft.proofs.CallerLemmas.{joined, more_lines}
use Rattle.calls_text.proofs.Written.{events_put}
use Rattle.calls_text.proofs.writing.put_events.Goals as goal

pub returns : goal.returns
returns c = events_put c.args.events.now (Run 0) c.args.out.now c.put_event.new.out c.loop-event.out c.loop-event.event-index c.in-len1-up.len_at_least c.put_event.ensures c.loop-event-test.false c.loop-event.invariant

pub loop-event-preserved : goal.loop-event-preserved
loop-event-preserved c =
    let events = c.args.events.now in
    more_lines (λ x. 44 ∷ event_text x) (take (length events - 1) (drop 1 events)) c.loop-event.event-index (Run 0) c.put_event.new.out c.loop-event.out c.put_event-in-loop-event.new.out c.loop-event-test.true c.loop-event.invariant
    (joined c.loop-event.out c.put.new.self c.put_event-in-loop-event.new.out _ _ c.put.ensures c.put_event-in-loop-event.ensures)
