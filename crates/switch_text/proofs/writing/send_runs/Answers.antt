use Rattle.std.proofs.Common.{◌∙◌, ◌+◌, ◌++◌, subst, sym, refl, arith}
use Rattle.std.proofs.lemmas.List.{length-map}
use Rattle.switch_text.specs.Runs.{switches_view_of, views}
use Rattle.counted_io.specs.Sides.{inner_of}
use Rattle.counted_io.specs.Faults.{TakesFront}
use Rattle.switch_text.specs.private.Merging.{next_entry, places_stepped}
use Rattle.switch_text.specs.private.Sliced.{lines_in, IsSending}
use Rattle.switch_text.proofs.Few.{few}
use Rattle.switch_text.proofs.Kept.{IsNamed-among}
use Rattle.switch_text.proofs.Merged.{in_order-next}
use Rattle.switch_text.proofs.UnderWay.{sent_within, Sends-more, length_from_append}
use Rattle.switch_text.proofs.Sliced.{IsSending-start, IsSending-next, IsSending-stops, IsSending-ends, sent_fits}
use Rattle.switch_text.proofs.writing.send_runs.Goals as goal

-- what is required has no names here: after the writer's, `few`, `runs`, `named`, `many`, `slots`,
-- `texts`, `room` and `faults`, in this order

pub loop-next-init : goal.loop-next-init
loop-next-init g c = record {
  sending = subst (λ places. IsSending (g.W.Write.contents (inner_of c.args.writer.now)) (g.W.Write.contents (inner_of c.args.writer.now)) c.args.batch.now (views c.args.runs.now) places 0 c.args.batch.now) (sym c.start-merge.ensures.places)
      (IsSending-start (g.W.Write.contents (inner_of c.args.writer.now)) c.args.batch.now (views c.args.runs.now) (omega (arith, length-map c.args.runs.now switches_view_of, c.requires.1.0)));
  heads = c.start-merge.ensures.heads;
  room = c.requires.1.1.1.1.1.1.1.0;
  many = c.requires.1.1.1.1.0;
  slots = c.requires.1.1.1.1.1.0;
  texts = c.requires.1.1.1.1.1.1.0;
  faults = refl;
}

pub overflow_add-sent : goal.overflow_add-sent
overflow_add-sent g c =
    let within = sent_within _ _ c.loop-next.batch c.make_room.new.self c.in-Ok.n c.in-Ok.ensures.ok in
    omega (arith, sent_fits _ _ c.args.batch.now (views c.args.runs.now) c.loop-next.merge.places c.loop-next.sent c.in-Ok.n c.loop-next.batch c.loop-next.invariant.sending c.requires.1.1.1.1.1.1.1.0 (few c.args.runs.now c.requires.1.0 c.requires.1.1.0) within)

pub step-requires-clause-run : goal.step-requires-clause-run
step-requires-clause-run g c = c.in-Some.ensures.run

pub append_line-requires : goal.append_line-requires
append_line-requires g c =
    let next = c.in-Some.next in
    let is = c.in-Some.ensures in
    let l = c.loop-next.invariant in
    let named = IsNamed-among g.names c.args.runs.now next c.requires.1.1.1.0 is.run is.among in
    (c.requires.1.0, (is.printed, (is.run, (named, (l.many, (l.slots, (l.texts, c.in-Ok.ensures.room)))))))

pub loop-next-preserved : goal.loop-next-preserved
loop-next-preserved g c =
    let e = next_entry c.in-Some.next in
    let first = c.args.batch.now in
    let mid = g.W.Write.contents (inner_of c.loop-next.writer) in
    let after = g.W.Write.contents (inner_of c.make_room.new.writer) in
    let left = c.make_room.new.self in
    let sends = Sends-more mid after c.loop-next.batch left e.line c.in-Ok.n c.in-Ok.ensures.ok in
    let short = length_from_append left e.line c.append_line.new.batch 384 c.append_line.ensures.text c.append_line.ensures.short in
    let next = IsSending-next _ mid after first (views c.args.runs.now) c.loop-next.merge.places (places_stepped c.loop-next.merge.places c.in-Some.next.index) c.loop-next.sent c.in-Ok.n c.loop-next.batch (left ++ e.line) e
    c.loop-next.invariant.sending (in_order-next c.args.runs.now c.loop-next.merge.places c.in-Some.next c.in-Some.ensures) sends (omega (arith, short)) in
    record {
      sending = subst (λ places. IsSending (g.W.Write.contents (inner_of c.args.writer.now)) after first (views c.args.runs.now) places (c.loop-next.sent + c.in-Ok.n) c.append_line.new.batch) (sym c.step.ensures.places)
          (subst (λ text. IsSending (g.W.Write.contents (inner_of c.args.writer.now)) after first (views c.args.runs.now) (places_stepped c.loop-next.merge.places c.in-Some.next.index) (c.loop-next.sent + c.in-Ok.n) text) (sym c.append_line.ensures.text) next);
      heads = c.step.ensures.heads;
      room = omega (arith, c.append_line.ensures.short, c.in-Ok.ensures.room);
      many = c.append_line.ensures.many;
      slots = c.append_line.ensures.slots;
      texts = c.append_line.ensures.texts;
      faults = c.in-Ok.ensures.faults ∙ c.loop-next.invariant.faults;
    }

pub together-requires : goal.together-requires
together-requires g c =
    let lt = c.in-Err.ensures.err.some_left in
    omega (arith, sent_fits _ _ c.args.batch.now (views c.args.runs.now) c.loop-next.merge.places c.loop-next.sent c.in-Err.n c.loop-next.batch c.loop-next.invariant.sending c.requires.1.1.1.1.1.1.1.0 (few c.args.runs.now c.requires.1.0 c.requires.1.1.0) (omega (arith, lt)))

pub returns-in-Err-clause-err : goal.returns-in-Err-clause-err
returns-in-Err-clause-err g c =
    subst (λ n. TakesFront (g.W.Write.contents (inner_of c.args.writer.now)) (g.W.Write.contents (inner_of c.make_room.new.writer)) (c.args.batch.now ++ lines_in (views c.args.runs.now)) n) (sym c.together.ensures)
    (IsSending-stops _ _ _ c.args.batch.now (views c.args.runs.now) c.loop-next.merge.places c.loop-next.sent c.in-Err.n c.loop-next.batch c.loop-next.invariant.sending c.in-Err.ensures.err)

pub returns-clause-ok : goal.returns-clause-ok
returns-clause-ok g c = IsSending-ends _ _ c.args.batch.now (views c.args.runs.now) c.loop-next.merge.places c.loop-next.sent c.loop-next.batch c.loop-next.invariant.sending c.in_default.ensures

pub returns-clause-counted : goal.returns-clause-counted
returns-clause-counted g c = sent_fits _ _ c.args.batch.now (views c.args.runs.now) c.loop-next.merge.places c.loop-next.sent _ c.loop-next.batch c.loop-next.invariant.sending c.requires.1.1.1.1.1.1.1.0 (few c.args.runs.now c.requires.1.0 c.requires.1.1.0) (omega arith)

pub returns-clause-bound : goal.returns-clause-bound
returns-clause-bound g c = let bound = c.loop-next.invariant.sending.bound in omega (arith, bound)

pub returns-in-Err-clause-stopped : goal.returns-in-Err-clause-stopped
returns-in-Err-clause-stopped g c =
    let bound = c.loop-next.invariant.sending.bound in
    let lt = c.in-Err.ensures.err.some_left in
    omega (arith, bound, lt, c.together.ensures)
