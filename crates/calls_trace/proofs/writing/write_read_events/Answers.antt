use Rattle.std.proofs.Common.{List, ℕ, subst}
use Rattle.std.proofs.lemmas.Result.{err_from_is_err_and}
use Rattle.counted_io.specs.Sides.{Side, side}
use Rattle.calls_trace.specs.declared.run_text.RunText.TheVariants.{Events}
use Rattle.calls_trace.specs.Written.{IsUnwritten, IsWritten}
use Rattle.calls_trace.specs.private.RunTexts.{text_of_all}
use Rattle.calls_trace.proofs.EventsLeading.{events_few, events_text}
use Rattle.calls_trace.proofs.Replayed.{unwritten}
use Rattle.calls_trace.proofs.writing.write_read_events.Goals as goal

pub write_played_events-requires-clause-few : goal.write_played_events-requires-clause-few
write_played_events-requires-clause-few g c = c.in_ok-playing.ensures.runs.few

pub write_played_events-requires-clause-countable : goal.write_played_events-requires-clause-countable
write_played_events-requires-clause-countable g c = events_few c.args.text.now c.in_ok-playing.playing.items c.in_ok-playing.ensures.runs

pub returns-in_err-write_played_events-clause-err : goal.returns-in_err-write_played_events-clause-err
returns-in_err-write_played_events-clause-err g c =
    let w : Side = side g.W.Write.contents c.args.writer.now c.write_played_events.new.writer in
    let r = c.in_ok-playing.ensures.runs in
    let e = c.in_err-write_played_events.field-0.0 in
    let p = err_from_is_err_and c.from_residual-in_err-write_played_events.result c.from_residual-in_err-write_played_events.ensures.1 in
    rw (p.1, p.2) (unwritten c.args.text.now (text_of_all Events) w r.sections e r.read r.spelled (subst (λ (t : List ℕ). IsUnwritten w t e) (events_text c.args.text.now c.in_ok-playing.playing.items r) c.in_err-write_played_events.ensures.err))

pub returns-clause-ok : goal.returns-clause-ok
returns-clause-ok g c =
    let w : Side = side g.W.Write.contents c.args.writer.now c.write_played_events.new.writer in
    let r = c.in_ok-playing.ensures.runs in
    record {
      spells = record { sections = r.sections; read = r.read; spelled = r.spelled };
      written = subst (λ (t : List ℕ). IsWritten w t) (events_text c.args.text.now c.in_ok-playing.playing.items r) c.in_ok-write_played_events.ensures.ok;
    }
