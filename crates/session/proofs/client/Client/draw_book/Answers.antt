use Rattle.std.proofs.Common.{◌≡◌, ◌<◌, ◌∙◌, get_or, length, refl, sym, ap, arith}
use Rattle.std.proofs.lemmas.Grind.{common_steps}
use Rattle.chart_pieces.specs.Drawing.{DrawingView}
use Rattle.session.specs.Asks.{ClientView}
use Rattle.session.specs.private.Ending.{IsStreamedOf}
use Rattle.session.proofs.Advanced.{streamed_as, streams_end, made_all, makes_all}
use Rattle.session.proofs.client.Client.draw_book.Goals.{in-Ok, in-Err-Full, in-Err-Memory}
use Rattle.session.proofs.client.Client.draw_book.Goals as goal

pub returns-clause-made : goal.returns-clause-made
returns-clause-made g c =
    let ps = c.self.inside.passes.items in
    let p = c.index_mut.result.now in
    let d = c.args.place in
    let inside : d < length ps = omega (arith, c.requires.named.place, c.self.invariant.count) in
    let owner : (get_or ps d p).client ≡ c.args.self.now.number = (c.self.invariant.each d p inside).owner ∙ ap (λ (v : ClientView). v.number) c.self.view_is in
    elim c.match-advance_drawn.branch [
      | in-Ok w ↦ rw w.result-is (made_all w.all_drawn.result _ _ w.all_drawn.ensures.ok
          (λ a is. makes_all c.args.self.now _ ps d c.args.ticks w.in-Ok.drawn.ticks p c.advance_drawn.new.pass c.args.book.now.book c.advance_drawn.new.self.book _
          (sym (ap (λ (v : ClientView). v.passes) c.self.view_is)) refl (ap (λ (v : ClientView). v.number) c.self.view_is) inside c.index_mut.ensures.value owner w.in-Ok.ensures.done refl is.0))
      | in-Err-Full w ↦ rw w.result-is tt
      | in-Err-Memory w ↦ rw w.result-is tt
    ]

pub returns-clause-drawn : goal.returns-clause-drawn
returns-clause-drawn g c =
    let n = c.args.ticks in
    elim c.match-advance_drawn.branch [
      | in-Ok w ↦ rw w.result-is (streamed_as w.all_drawn.result _ (λ (d : DrawingView). IsStreamedOf n c.advance_drawn.new.self.book d.streamed) w.all_drawn.ensures.ok
          (λ d is. streams_end c.args.book.now.book c.advance_drawn.new.self.book c.index_mut.result.now c.advance_drawn.new.pass n w.in-Ok.drawn.ticks d.streamed w.in-Ok.drawn.drawing.streamed w.in-Ok.ensures.done w.in-Ok.ensures.drawn
          (is.0, ap (λ (x : DrawingView). x.streamed) is.1)))
      | in-Err-Full w ↦ rw w.result-is tt
      | in-Err-Memory w ↦ rw w.result-is tt
    ]

pub returns-clause-window : goal.returns-clause-window
returns-clause-window g c =
    elim c.match-advance_drawn.branch [
      | in-Ok w ↦ rw w.result-is (streamed_as w.all_drawn.result _ (λ (d : DrawingView). d.window ≡ c.args.window) w.all_drawn.ensures.ok
          (λ d is. ap (λ (x : DrawingView). x.window) is.1 ∙ w.in-Ok.ensures.window))
      | in-Err-Full w ↦ rw w.result-is tt
      | in-Err-Memory w ↦ rw w.result-is tt
    ]

pub returns-clause-named : goal.returns-clause-named
returns-clause-named g c = grind (arith, common_steps)

pub returns-clause-domains : goal.returns-clause-domains
returns-clause-domains g c = grind (arith, common_steps)

pub returns-clause-ends : goal.returns-clause-ends
returns-clause-ends g c = grind (arith, common_steps)

pub returns-clause-forgotten : goal.returns-clause-forgotten
returns-clause-forgotten g c = grind (arith, common_steps)

pub returns-clause-err : goal.returns-clause-err
returns-clause-err g c = grind (arith, common_steps)
