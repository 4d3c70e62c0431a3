use Rattle.std.proofs.Common.{◌≡◌, All, map, subst, arith}
use Rattle.std.specs.Vec.Iter.{into_iter_items}
use Rattle.std.proofs.lemmas.List.{length_push}
use Rattle.std.proofs.lemmas.List.Elements.{All-head, All-push, All-tail}
use Rattle.calls_trace.specs.declared.foreseen_text.ForeseenSection.{ForeseenSection}
use Rattle.calls_trace.specs.declared.sketch.Sketch.{Sketch}
use Rattle.calls_trace.specs.private.Sketched.{IsReadyToRun, ahead_as, sketch_ahead, sketch_as}
use Rattle.calls_trace.proofs.Sketches.{made_more}
use Rattle.calls_trace.proofs.sketched_text.all_sketched.Goals as goal

pub sketch_section-requires : goal.sketch_section-requires
sketch_section-requires c = record {
  ready = All-head IsReadyToRun c.in-Some.section (into_iter_items c.next.new.self) (subst (All IsReadyToRun) c.in-Some.ensures.items c.loop-section.invariant.ready);
}

pub loop-section-preserved : goal.loop-section-preserved
loop-section-preserved c =
    let inv = c.loop-section.invariant in
    let was = c.loop-section.all.items in
    let one = c.in_ok-sketch_section.field-0 in
    let left = into_iter_items c.next.new.self in
    let made = λ (f : ForeseenSection). sketch_ahead c.args.window (ahead_as f) in
    let is = c.push_reserved.ensures.items in
    rw is (record {
      drawn = made_more sketch_as made was one (into_iter_items c.loop-section.rest) left c.in-Some.section (map made c.args.sections.items) c.in-Some.ensures.items c.in_ok-sketch_section.ensures.drawn inv.drawn;
      window = All-push (λ (s : Sketch). s.window ≡ c.args.window) was one inv.window c.in_ok-sketch_section.ensures.window;
      ready = All-tail IsReadyToRun c.in-Some.section left (subst (All IsReadyToRun) c.in-Some.ensures.items inv.ready);
      room = omega (arith, inv.room, c.in-Some.ensures.len, length_push was one, c.push_reserved.ensures.capacity);
    })
