use Rattle.std.proofs.Common.{◌<◌, ◌^◌, List, length, map, ap, sym, subst, arith}
use Rattle.std.specs.Io.KnownBytes.{Appends}
use Rattle.counted_io.specs.Sides.{Side, side}
use Rattle.counted_io.specs.Faults.{TakesFront}
use Rattle.switch_text.specs.SlicedEvents.{logged_runs, events_in, logged_runs_text}
use Rattle.calls_trace.specs.declared.playing_events.PlayingEvents.{PlayingEvents}
use Rattle.calls_trace.specs.private.PlayingEvents.{sliced_events_of}
use Rattle.calls_trace.proofs.trace.write_played_events.Goals as goal

pub write_event_slices-written-requires-clause-few : goal.write_event_slices-written-requires-clause-few
write_event_slices-written-requires-clause-few g c = omega (arith, ap length c.as_mut_slice.ensures.value, c.requires.few)

pub write_event_slices-written-requires-clause-countable : goal.write_event_slices-written-requires-clause-countable
write_event_slices-written-requires-clause-countable g c =
    subst (λ (runs : List PlayingEvents). length (events_in (logged_runs (map sliced_events_of runs))) < 2 ^ 55) (sym c.as_mut_slice.ensures.value) c.requires.countable

pub returns-in-Ok-written-clause-ok : goal.returns-in-Ok-written-clause-ok
returns-in-Ok-written-clause-ok g c =
    let w : Side = side g.W.Write.contents c.args.writer.now c.write_event_slices-written.new.writer in
    record {
      taken = subst (λ (runs : List PlayingEvents). Appends w.before.bytes w.after.bytes (logged_runs_text (logged_runs (map sliced_events_of runs)))) c.as_mut_slice.ensures.value c.in-Ok-written.ensures.ok;
      writes = c.in-Ok-written.ensures.faults;
    }

pub returns-in-Err-written-clause-err : goal.returns-in-Err-written-clause-err
returns-in-Err-written-clause-err g c =
    let w : Side = side g.W.Write.contents c.args.writer.now c.write_event_slices-written.new.writer in
    record {
      taken = subst (λ (runs : List PlayingEvents). TakesFront w.before.bytes w.after.bytes (logged_runs_text (logged_runs (map sliced_events_of runs))) c.in-Err-written.fault.written) c.as_mut_slice.ensures.value c.in-Err-written.ensures.err;
      writes = c.in-Err-written.ensures.faults;
    }
