use Rattle.std.proofs.Common.{◌≡◌, ◌∙◌, ◌+◌, ◌++◌, length, replicate, subst, sym, refl, arith}
use Rattle.switch_text.specs.Runs.{views}
use Rattle.switch_text.specs.Events.{all_events}
use Rattle.switch_text.specs.EventLines.{logged_views}
use Rattle.counted_io.specs.Sides.{inner_of}
use Rattle.counted_io.specs.Faults.{TakesFront}
use Rattle.switch_text.specs.private.EventMerging.{EventPlaces, places_of, left_events, after_next, line_of_next}
use Rattle.switch_text.specs.private.EventSlicing.{sequence_lines}
use Rattle.switch_text.proofs.UnderWay.{sent_within, Sends-more, length_from_append}
use Rattle.switch_text.proofs.EventsUnderWay.{AreUnderWay, AreUnderWay-start, AreUnderWay-next, AreUnderWay-stops, AreUnderWay-ends, events_fit, left_events-start, few_events}
use Rattle.switch_text.proofs.events.send_events.Goals as goal

-- what is required has no names here: after the writer's stand `few_runs`, `few_logged`, `runs`,
-- `logged`, `named`, `many`, `slots`, `texts`, `room` and `faults`, in this order

pub loop-next-init : goal.loop-next-init
loop-next-init g c =
    let before = g.W.Write.contents (inner_of c.args.writer.now) in
    let runs = c.args.runs.now in
    let logged = c.args.logged.now in
    let all = all_events (views runs) (logged_views logged) in
    let r = c.requires.1 in
    let zero : EventPlaces = record { switches = replicate 8 0; logged = replicate 8 0 } in
    let places : places_of c.start-merge.result ≡ zero = rw (c.start-merge.ensures.switches, c.start-merge.ensures.logged) refl in
    record {
      under_way = subst (λ p. AreUnderWay before before c.args.batch.now all (left_events runs logged p) 0 c.args.batch.now) (sym places)
          (AreUnderWay-start before c.args.batch.now all (left_events runs logged zero) (left_events-start runs logged r.0 r.1.0));
      heads = c.start-merge.ensures.heads;
      room = r.1.1.1.1.1.1.1.1.0;
      many = r.1.1.1.1.1.0;
      slots = r.1.1.1.1.1.1.0;
      texts = r.1.1.1.1.1.1.1.0;
      faults = refl;
    }

pub overflow_add-sent : goal.overflow_add-sent
overflow_add-sent g c =
    let runs = c.args.runs.now in
    let logged = c.args.logged.now in
    let r = c.requires.1 in
    let within = sent_within _ _ c.loop-next.batch c.make_room.new.self c.in-Ok.n c.in-Ok.ensures.ok in
    let few = few_events runs logged r.0 r.1.0 r.1.1.0 r.1.1.1.0 in
    omega (arith, events_fit _ _ c.args.batch.now (all_events (views runs) (logged_views logged)) (left_events runs logged (places_of c.loop-next.merge)) c.loop-next.sent c.in-Ok.n c.loop-next.batch c.loop-next.invariant.under_way r.1.1.1.1.1.1.1.1.0 few within)

pub append_event-requires : goal.append_event-requires
append_event-requires g c =
    let l = c.loop-next.invariant in
    let r = c.requires.1 in
    (r.0, (r.1.1.1.1.0, (c.in-Some.ensures.shown, (l.many, (l.slots, (l.texts, c.in-Ok.ensures.room))))))

pub loop-next-preserved : goal.loop-next-preserved
loop-next-preserved g c =
    let runs = c.args.runs.now in
    let logged = c.args.logged.now in
    let first = c.args.batch.now in
    let all = all_events (views runs) (logged_views logged) in
    let line = line_of_next c.in-Some.next in
    let before = g.W.Write.contents (inner_of c.args.writer.now) in
    let mid = g.W.Write.contents (inner_of c.loop-next.writer) in
    let after = g.W.Write.contents (inner_of c.make_room.new.writer) in
    let left = c.make_room.new.self in
    let following = left_events runs logged (after_next (places_of c.loop-next.merge) c.in-Some.next) in
    let sends = Sends-more mid after c.loop-next.batch left line c.in-Ok.n c.in-Ok.ensures.ok in
    let short = length_from_append left line c.append_event.new.batch 384 c.append_event.ensures.text c.append_event.ensures.short in
    let next = AreUnderWay-next before mid after first all (left_events runs logged (places_of c.loop-next.merge)) following c.loop-next.sent c.in-Ok.n c.loop-next.batch (left ++ line) line
    c.loop-next.invariant.under_way c.in-Some.ensures.step sends (omega (arith, short)) in
    record {
      under_way = subst (λ places. AreUnderWay before after first all (left_events runs logged places) (c.loop-next.sent + c.in-Ok.n) c.append_event.new.batch) (sym c.step.ensures.places)
          (subst (λ waiting. AreUnderWay before after first all following (c.loop-next.sent + c.in-Ok.n) waiting) (sym c.append_event.ensures.text) next);
      heads = c.step.ensures.heads;
      room = omega (arith, c.append_event.ensures.short, c.in-Ok.ensures.room);
      many = c.append_event.ensures.many;
      slots = c.append_event.ensures.slots;
      texts = c.append_event.ensures.texts;
      faults = c.in-Ok.ensures.faults ∙ c.loop-next.invariant.faults;
    }

pub together-requires : goal.together-requires
together-requires g c =
    let runs = c.args.runs.now in
    let logged = c.args.logged.now in
    let r = c.requires.1 in
    let lt = c.in-Err.ensures.err.some_left in
    let few = few_events runs logged r.0 r.1.0 r.1.1.0 r.1.1.1.0 in
    omega (arith, events_fit _ _ c.args.batch.now (all_events (views runs) (logged_views logged)) (left_events runs logged (places_of c.loop-next.merge)) c.loop-next.sent c.in-Err.n c.loop-next.batch c.loop-next.invariant.under_way r.1.1.1.1.1.1.1.1.0 few (omega (arith, lt)))

pub returns-in-Err-clause-err : goal.returns-in-Err-clause-err
returns-in-Err-clause-err g c =
    let runs = c.args.runs.now in
    let logged = c.args.logged.now in
    let all = all_events (views runs) (logged_views logged) in
    subst (λ n. TakesFront (g.W.Write.contents (inner_of c.args.writer.now)) (g.W.Write.contents (inner_of c.make_room.new.writer)) (c.args.batch.now ++ sequence_lines all) n) (sym c.together.ensures)
    (AreUnderWay-stops _ _ _ c.args.batch.now all (left_events runs logged (places_of c.loop-next.merge)) c.loop-next.sent c.in-Err.n c.loop-next.batch c.loop-next.invariant.under_way c.in-Err.ensures.err)

pub returns-clause-ok : goal.returns-clause-ok
returns-clause-ok g c =
    let runs = c.args.runs.now in
    let logged = c.args.logged.now in
    AreUnderWay-ends _ _ c.args.batch.now (all_events (views runs) (logged_views logged)) (left_events runs logged (places_of c.loop-next.merge)) c.loop-next.sent c.loop-next.batch c.loop-next.invariant.under_way c.in_default.ensures

pub returns-clause-counted : goal.returns-clause-counted
returns-clause-counted g c =
    let runs = c.args.runs.now in
    let logged = c.args.logged.now in
    let r = c.requires.1 in
    let few = few_events runs logged r.0 r.1.0 r.1.1.0 r.1.1.1.0 in
    events_fit _ _ c.args.batch.now (all_events (views runs) (logged_views logged)) (left_events runs logged (places_of c.loop-next.merge)) c.loop-next.sent _ c.loop-next.batch c.loop-next.invariant.under_way r.1.1.1.1.1.1.1.1.0 few (omega arith)

pub returns-clause-bound : goal.returns-clause-bound
returns-clause-bound g c = let bound = c.loop-next.invariant.under_way.bound in omega (arith, bound)

pub returns-in-Err-clause-stopped : goal.returns-in-Err-clause-stopped
returns-in-Err-clause-stopped g c =
    let bound = c.loop-next.invariant.under_way.bound in
    let lt = c.in-Err.ensures.err.some_left in
    omega (arith, bound, lt, c.together.ensures)
