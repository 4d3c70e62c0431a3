use Rattle.std.proofs.Common.{◌≡◌, ℕ, Bool, cond, List, ◌+◌, ◌∙◌, length, map, All, refl, sym, subst, ap, arith}
use Rattle.std.proofs.lemmas.Bool.{true≢false}
use Rattle.counted_io.specs.Sides.{inner_of}
use Rattle.switch_text.specs.SlicedEvents.{EventRun, logged_runs, logged_runs_text}
use Rattle.switch_text.specs.Trace.{header}
use Rattle.switch_text.specs.private.Ready.{AreEnough, AreNobodys, IsSlot}
use Rattle.switch_text.specs.private.EventSlicing.{IsSlicingEvents, names_logged_by}
use Rattle.switch_text.proofs.Kept.{nobody_is_slot}
use Rattle.switch_text.proofs.UnderWay.{length-header}
use Rattle.switch_text.proofs.Sliced.{ends_all, stops_all}
use Rattle.switch_text.proofs.EventRounds.{IsSlicingEvents-start, IsSlicingEvents-next, IsSlicingEvents-stops, IsSlicingEvents-ends, slicing_events_fit, names_logged_cut, events_smaller, events_last}
use Rattle.switch_text.proofs.event_slices.write_event_slices.Goals as goal

pub rounds-init : goal.rounds-init
rounds-init g c =
    let all = logged_runs (map g.S.EventSlices.sliced c.args.slices.now) in
    let waiting : c.append.new.self ≡ header = rw (c.append.ensures, c.new-batch.ensures) c.header_text.ensures.text in
    record {
      slicing = IsSlicingEvents-start (g.W.Write.contents (inner_of c.args.writer.now)) all c.append.new.self waiting;
      last = λ no. absurd (true≢false no);
      few = c.requires.few;
      room = omega (arith, ap length waiting, length-header);
      many = subst AreEnough (sym c.as_mut_slice-slots.ensures.value) c.widened-room.result.many;
      slots = nobody_is_slot (names_logged_by all) _ (subst AreNobodys (sym c.as_mut_slice-slots.ensures.value) c.widened-room.result.empty);
      texts = c.no_texts-texts.ensures;
      kept = refl;
      faults = refl;
    }

pub overflow_add-written : goal.overflow_add-written
overflow_add-written g c =
    let f = g.S.EventSlices.sliced in
    let all = logged_runs (map f c.args.slices.now) in
    let l = c.rounds in
    let full = map f c.fill_all-cut.new.slices in
    let slicing = subst (λ (rs : List EventRun). IsSlicingEvents (g.W.Write.contents (inner_of c.args.writer.now)) (g.W.Write.contents (inner_of l.writer)) all rs l.written l.batch) (sym c.fill_all-cut.ensures.whole) l.invariant.slicing in
    let bound = c.in-Ok.ensures.bound in
    omega (arith, slicing_events_fit _ _ all c.fill_all-cut.result full l.written c.in-Ok.n l.batch slicing c.fill_all-cut.ensures.cut.final c.requires.countable (omega (arith, bound)))

pub stopped_after-requires : goal.stopped_after-requires
stopped_after-requires g c =
    let f = g.S.EventSlices.sliced in
    let all = logged_runs (map f c.args.slices.now) in
    let l = c.rounds in
    let full = map f c.fill_all-cut.new.slices in
    let slicing = subst (λ (rs : List EventRun). IsSlicingEvents (g.W.Write.contents (inner_of c.args.writer.now)) (g.W.Write.contents (inner_of l.writer)) all rs l.written l.batch) (sym c.fill_all-cut.ensures.whole) l.invariant.slicing in
    omega (arith, slicing_events_fit _ _ all c.fill_all-cut.result full l.written c.in-Err.n l.batch slicing c.fill_all-cut.ensures.cut.final c.requires.countable c.in-Err.ensures.stopped)

pub returns-in-Err-clause-err : goal.returns-in-Err-clause-err
returns-in-Err-clause-err g c =
    let f = g.S.EventSlices.sliced in
    let all = logged_runs (map f c.args.slices.now) in
    let l = c.rounds in
    let before = g.W.Write.contents (inner_of c.args.writer.now) in
    let mid = g.W.Write.contents (inner_of l.writer) in
    let full = map f c.fill_all-cut.new.slices in
    let slicing = subst (λ (rs : List EventRun). IsSlicingEvents before mid all rs l.written l.batch) (sym c.fill_all-cut.ensures.whole) l.invariant.slicing in
    let stops = IsSlicingEvents-stops before mid (g.W.Write.contents (inner_of c.send_fronts.new.writer)) all c.fill_all-cut.result full l.written c.in-Err.n l.batch slicing c.fill_all-cut.ensures.cut.final c.in-Err.ensures.err in
    rw c.stopped_after.ensures stops

pub rounds-smaller : goal.rounds-smaller
rounds-smaller g c =
    let f = g.S.EventSlices.sliced in
    let more : cond {A = ℕ} c.rounds.has_more 1 0 ≡ 1 = ap (λ (b : Bool). cond {A = ℕ} b 1 0) c.rounds-test.true in
    omega (
      arith,
      more,
      events_smaller c.fill_all-cut.result c.is_some-has_more.result (logged_runs (map f c.rounds.slices)) (map f c.fill_all-cut.new.slices) (map f c.forget_all.new.slices) c.fill_all-cut.ensures.cut c.fill_all-cut.ensures.whole
          c.forget_all.ensures.left c.is_some-has_more.ensures,
    )

pub rounds-preserved : goal.rounds-preserved
rounds-preserved g c =
    let f = g.S.EventSlices.sliced in
    let all = logged_runs (map f c.args.slices.now) in
    let l = c.rounds in
    let cut = c.fill_all-cut.result in
    let full = map f c.fill_all-cut.new.slices in
    let left = map f c.forget_all.new.slices in
    let final = c.fill_all-cut.ensures.cut.final in
    let same = sym c.fill_all-cut.ensures.whole in
    let gone = sym (ap logged_runs c.forget_all.ensures.left) in
    let before = g.W.Write.contents (inner_of c.args.writer.now) in
    let mid = g.W.Write.contents (inner_of l.writer) in
    let after = g.W.Write.contents (inner_of c.send_fronts.new.writer) in
    let batch = c.send_fronts.new.batch in
    let slicing = subst (λ (rs : List EventRun). IsSlicingEvents before mid all rs l.written l.batch) same l.invariant.slicing in
    let next = IsSlicingEvents-next before mid after all cut full l.written c.in-Ok.n l.batch batch slicing final c.in-Ok.ensures.ok c.in-Ok.ensures.bound in
    let names : names_logged_by (logged_runs full) ≡ names_logged_by (logged_runs left) = sym (names_logged_cut cut full) ∙ ap names_logged_by gone in
    record {
      slicing = subst (λ (rs : List EventRun). IsSlicingEvents before after all rs (l.written + c.in-Ok.n) batch) gone next;
      last = λ none. events_last cut c.is_some-has_more.result full left final c.forget_all.ensures.left c.is_some-has_more.ensures none;
      few = omega (arith, c.forget_all.auto.slices, c.fill_all-cut.auto.slices, l.invariant.few);
      room = c.in-Ok.ensures.room;
      many = c.send_fronts.ensures.many;
      slots = subst (λ (names : ℕ → ℕ → List ℕ). All (IsSlot names) c.send_fronts.new.slots) names c.send_fronts.ensures.slots;
      texts = c.send_fronts.ensures.texts;
      kept = c.forget_all.ensures.kept ∙ c.fill_all-cut.ensures.kept ∙ l.invariant.kept;
      faults = c.in-Ok.ensures.faults ∙ l.invariant.faults;
    }

pub returns-in-Ok-flush-clause-ok : goal.returns-in-Ok-flush-clause-ok
returns-in-Ok-flush-clause-ok g c =
    let f = g.S.EventSlices.sliced in
    let all = logged_runs (map f c.args.slices.now) in
    let l = c.rounds in
    let sends = IsSlicingEvents-ends _ _ all (logged_runs (map f l.slices)) l.written l.batch l.invariant.slicing (l.invariant.last c.rounds-test.false) in
    ends_all _ _ _ (logged_runs_text all) l.batch c.flush.new.self l.written c.in-Ok-flush.field-0 sends c.in-Ok-flush.ensures.ok c.in-Ok-flush.ensures.emptied

pub returns-clause-err : goal.returns-clause-err
returns-clause-err g c =
    let f = g.S.EventSlices.sliced in
    let all = logged_runs (map f c.args.slices.now) in
    let l = c.rounds in
    let sends = IsSlicingEvents-ends _ _ all (logged_runs (map f l.slices)) l.written l.batch l.invariant.slicing (l.invariant.last c.rounds-test.false) in
    rw c.stopped_after-in-Err-flush.ensures (stops_all _ _ _ (logged_runs_text all) l.batch l.written c.in-Err-flush.n sends c.in-Err-flush.ensures.err)
