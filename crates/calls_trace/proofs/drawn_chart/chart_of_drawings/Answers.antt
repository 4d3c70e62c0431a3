use Rattle.std.proofs.Common.{◌≡◌, map, sym, ap, subst, ◌∙◌}
use Rattle.std.specs.Prelude.{All}
use Rattle.std.proofs.lemmas.Result.{IfOk-weaker}
use Rattle.calls_trace.specs.Charted.{chart_in}
use Rattle.calls_trace.specs.declared.sketch.Sketch.{Sketch}
use Rattle.calls_trace.specs.private.Sketched.{chart_sketched, sketch_as}
use Rattle.calls_trace.proofs.Sketches.{as_many_drawn, chart_drawn}
use Rattle.calls_trace.proofs.drawn_chart.chart_of_drawings.Goals as goal

pub drawn_text-requires-clause-few : goal.drawn_text-requires-clause-few
drawn_text-requires-clause-few c =
    as_many_drawn c.args.window c.args.histories.now c.in_ok-sketches.sketches.items c.deref.result.now c.deref.ensures.value c.in_ok-sketches.ensures.drawn c.requires.few

pub drawn_text-requires-clause-window : goal.drawn_text-requires-clause-window
drawn_text-requires-clause-window c =
    subst (All (λ (s : Sketch). s.window ≡ c.args.window)) (sym c.deref.ensures.value) c.in_ok-sketches.ensures.window

pub returns : goal.returns
returns c =
    let w = c.args.window in
    let hs = c.args.histories.now in
    let lent = c.deref.result.now in
    let is = chart_drawn w (map sketch_as lent) hs (ap (map sketch_as) c.deref.ensures.value ∙ c.in_ok-sketches.ensures.drawn) in
    IfOk-weaker c.drawn_text.result (λ v. v.items ≡ chart_sketched w (map sketch_as lent)) (λ v. v.items ≡ chart_in w hs) (λ v made. made ∙ is) c.drawn_text.ensures
