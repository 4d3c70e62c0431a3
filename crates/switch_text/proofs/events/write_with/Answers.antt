use Rattle.std.proofs.Common.{◌≡◌, ◌∙◌, ◌+◌, ◌++◌, length, ap, subst, sym, arith}
use Rattle.switch_text.specs.Trace.{header}
use Rattle.switch_text.specs.Runs.{views}
use Rattle.switch_text.specs.Events.{all_events, events_of}
use Rattle.switch_text.specs.EventLines.{logged_views}
use Rattle.counted_io.specs.Sides.{inner_of}
use Rattle.counted_io.specs.Faults.{TakesFront}
use Rattle.switch_text.specs.private.EventSlicing.{sequence_lines}
use Rattle.switch_text.specs.private.Ready.{names_at}
use Rattle.switch_text.proofs.Kept.{AreNamed-at, nobody_is_slot}
use Rattle.switch_text.proofs.UnderWay.{length-header}
use Rattle.switch_text.proofs.Sliced.{ends_all, stops_all}
use Rattle.switch_text.proofs.EventsUnderWay.{events_are}
use Rattle.switch_text.proofs.events.write_with.Goals as goal

pub send_events-requires : goal.send_events-requires
send_events-requires g c =
    let runs = c.args.runs.now in
    let r = c.requires in
    let waiting : c.append.new.self ≡ header = rw (c.append.ensures, c.new-batch.ensures) c.header_text.ensures.text in
    let slots = nobody_is_slot (names_at runs) c.args.slots.now r.empty in
    λ κs lives. (lives, (r.few_runs, (r.few_logged, (r.runs, (r.logged, (AreNamed-at runs, (r.many, (slots, (c.no_texts-texts.ensures, (omega (arith, ap length waiting, length-header), r.faults))))))))))

pub returns-in-Err-clause-err : goal.returns-in-Err-clause-err
returns-in-Err-clause-err g c =
    let runs = views c.args.runs.now in
    let logged = logged_views c.args.logged.now in
    let waiting : c.append.new.self ≡ header = rw (c.append.ensures, c.new-batch.ensures) c.header_text.ensures.text in
    let front = TakesFront (g.W.Write.contents (inner_of c.args.writer.now)) (g.W.Write.contents (inner_of c.send_events.new.writer)) in
    let same : 0 + c.in-Err.n ≡ c.in-Err.n = omega arith in
    subst (front (events_of runs logged)) (sym (c.stopped_after.ensures ∙ same))
    (subst (λ text. front text c.in-Err.n) (events_are c.append.new.self runs logged waiting) c.in-Err.ensures.err)

pub stopped_after-requires-in-Err-flush : goal.stopped_after-requires-in-Err-flush
stopped_after-requires-in-Err-flush g c = let lt = c.in-Err-flush.ensures.err.some_left in omega (arith, lt, c.in-Ok.ensures.counted)

pub returns-in-Ok-flush-clause-ok : goal.returns-in-Ok-flush-clause-ok
returns-in-Ok-flush-clause-ok g c =
    let runs = views c.args.runs.now in
    let logged = logged_views c.args.logged.now in
    let waiting : c.append.new.self ≡ header = rw (c.append.ensures, c.new-batch.ensures) c.header_text.ensures.text in
    let text = c.append.new.self ++ sequence_lines (all_events runs logged) in
    rw (← events_are c.append.new.self runs logged waiting) (ends_all _ _ _ text c.send_events.new.batch c.flush.new.self _ c.in-Ok-flush.field-0 c.in-Ok.ensures.ok c.in-Ok-flush.ensures.ok c.in-Ok-flush.ensures.emptied)

pub returns-in-Err-flush-clause-err : goal.returns-in-Err-flush-clause-err
returns-in-Err-flush-clause-err g c =
    let runs = views c.args.runs.now in
    let logged = logged_views c.args.logged.now in
    let waiting : c.append.new.self ≡ header = rw (c.append.ensures, c.new-batch.ensures) c.header_text.ensures.text in
    let text = c.append.new.self ++ sequence_lines (all_events runs logged) in
    let front = TakesFront (g.W.Write.contents (inner_of c.args.writer.now)) (g.W.Write.contents (inner_of c.flush.new.writer)) in
    subst (front (events_of runs logged)) (sym c.stopped_after-in-Err-flush.ensures)
    (subst (λ t. front t (c.in-Ok.n + c.in-Err-flush.n)) (events_are c.append.new.self runs logged waiting) (stops_all _ _ _ text c.send_events.new.batch c.in-Ok.n c.in-Err-flush.n c.in-Ok.ensures.ok c.in-Err-flush.ensures.err))
