use Rattle.std.proofs.Common.{◌≡◌, ◌∙◌, sym, ap, subst, arith}
use Rattle.std.specs.Vec.Iter.{into_iter_items}
use Rattle.std.proofs.lemmas.List.{get_or-map, length_push}
use Rattle.std.proofs.lemmas.List.Elements.{All-push}
use Rattle.domain_run.specs.Passing.{without_switches}
use Rattle.calls_text.specs.SectionView.{SectionView}
use Rattle.calls_text.specs.Histories.{IsLegal}
use Rattle.chart_pieces.specs.Drawing.{DrawingView}
use Rattle.calls_trace.specs.Streamed.{section_streamed}
use Rattle.calls_trace.specs.DomainEvents.{domain_of}
use Rattle.calls_trace.specs.declared.sketch.Sketch.{Sketch}
use Rattle.calls_trace.specs.private.Sketched.{ahead_in, sketch_ahead, sketch_as}
use Rattle.calls_trace.proofs.Sketches.{next_left}
use Rattle.calls_trace.proofs.Texts.{views_more}
use Rattle.calls_trace.proofs.drawn_chart.sketches_of.Goals as goal

pub sketch_of-requires-clause-legal : goal.sketch_of-requires-clause-legal
sketch_of-requires-clause-legal c =
    let at = next_left c.args.drawings.items c.loop-drawing.place c.in-Some.drawing (into_iter_items c.next.new.self) (sym c.in-Some.ensures.items ∙ c.loop-drawing.invariant.left) in
    let h = c.index-histories-place.result in
    subst (λ (s : SectionView). IsLegal s.cpus s.limit s.entries) (sym c.index-histories-place.is) (c.requires.legal c.loop-drawing.place h (omega (arith, at.inside, c.requires.drawn.as_many)))

pub sketch_of-requires-clause-state : goal.sketch_of-requires-clause-state
sketch_of-requires-clause-state c =
    let at = next_left c.args.drawings.items c.loop-drawing.place c.in-Some.drawing (into_iter_items c.next.new.self) (sym c.in-Some.ensures.items ∙ c.loop-drawing.invariant.left) in
    ap without_switches c.index-states-place.is
    ∙ c.requires.runs c.loop-drawing.place c.index-histories-place.result c.index-states-place.result (omega (arith, at.inside, c.requires.drawn.as_many))
    ∙ ap (λ (s : SectionView). without_switches (domain_of s)) (sym c.index-histories-place.is)

pub sketch_of-requires-clause-same_window : goal.sketch_of-requires-clause-same_window
sketch_of-requires-clause-same_window c =
    let at = next_left c.args.drawings.items c.loop-drawing.place c.in-Some.drawing (into_iter_items c.next.new.self) (sym c.in-Some.ensures.items ∙ c.loop-drawing.invariant.left) in
    let d = c.in-Some.drawing in
    sym (ap (λ (x : DrawingView). x.window) (at.is d)) ∙ c.requires.drawn.same_window c.loop-drawing.place d at.inside

pub sketch_of-requires-clause-whole : goal.sketch_of-requires-clause-whole
sketch_of-requires-clause-whole c =
    let at = next_left c.args.drawings.items c.loop-drawing.place c.in-Some.drawing (into_iter_items c.next.new.self) (sym c.in-Some.ensures.items ∙ c.loop-drawing.invariant.left) in
    let k = c.loop-drawing.place in
    let d = c.in-Some.drawing in
    sym (get_or-map (λ (x : DrawingView). x.streamed) c.args.drawings.items k d d.streamed at.inside ∙ ap (λ (x : DrawingView). x.streamed) (at.is d))
    ∙ c.requires.drawn.whole k c.index-histories-place.result d.streamed (omega (arith, at.inside, c.requires.drawn.as_many))
    ∙ ap section_streamed (sym c.index-histories-place.is)

pub loop-drawing-preserved : goal.loop-drawing-preserved
loop-drawing-preserved c =
    let inv = c.loop-drawing.invariant in
    let at = next_left c.args.drawings.items c.loop-drawing.place c.in-Some.drawing (into_iter_items c.next.new.self) (sym c.in-Some.ensures.items ∙ c.loop-drawing.invariant.left) in
    let k = c.loop-drawing.place in
    let was = c.loop-drawing.all.items in
    let one = c.in_ok-one.one in
    let made = λ (s : SectionView). sketch_ahead c.args.window (ahead_in s) in
    rw c.push_reserved.ensures.items (record {
      drawn = views_more sketch_as made was one c.args.histories.now k c.index-histories-place.result (omega (arith, at.inside, c.requires.drawn.as_many)) c.index-histories-place.is c.in_ok-one.ensures.drawn inv.drawn;
      window = All-push (λ (s : Sketch). s.window ≡ c.args.window) was one inv.window c.in_ok-one.ensures.window;
      left = at.rest;
      inside = omega (arith, at.inside);
      room = omega (arith, inv.room, c.in-Some.ensures.len, length_push was one, c.push_reserved.ensures.capacity);
    })
