use Rattle.std.proofs.Common.{◌≡◌, ℕ, List, map, sym, ap, subst, ◌∙◌}
use Rattle.std.specs.Prelude.{All, fold, max}
use Rattle.std.proofs.lemmas.Result.{IfOk-weaker}
use Rattle.calls_trace.specs.declared.foreseen_text.ForeseenSection.{ForeseenSection}
use Rattle.calls_trace.specs.declared.sketch.Sketch.{Sketch}
use Rattle.calls_trace.specs.private.Sketched.{ahead_as, chart_ahead, chart_sketched, sketch_as}
use Rattle.calls_trace.proofs.Sketches.{as_many_made, chart_is_ahead}
use Rattle.calls_trace.proofs.sketched_text.sketched_text.Goals as goal

pub drawn_text-requires-clause-few : goal.drawn_text-requires-clause-few
drawn_text-requires-clause-few c =
    as_many_made c.window-window.result c.args.sections.items c.in_ok-sketches.sketches.items c.deref-2.result.now c.deref-2.ensures.value c.in_ok-sketches.ensures.drawn c.requires.few

pub drawn_text-requires-clause-window : goal.drawn_text-requires-clause-window
drawn_text-requires-clause-window c =
    subst (All (λ (s : Sketch). s.window ≡ c.window-window.result)) (sym c.deref-2.ensures.value) c.in_ok-sketches.ensures.window

pub returns : goal.returns
returns c =
    let w = c.window-window.result in
    let fs = c.args.sections.items in
    let lent = c.deref-2.result.now in
    let is = chart_is_ahead c.args.span w c.end_of.result fs (map sketch_as lent) c.window-window.ensures.window
    (c.end_of.ensures ∙ ap (λ (xs : List ForeseenSection). fold (λ (e : ℕ) (f : ForeseenSection). max e f.foreseen.ticks) 0 xs) c.deref.ensures.value) c.requires.ready
    (ap (map sketch_as) c.deref-2.ensures.value ∙ c.in_ok-sketches.ensures.drawn) in
    IfOk-weaker c.drawn_text.result (λ v. v.items ≡ chart_sketched w (map sketch_as lent)) (λ v. v.items ≡ chart_ahead c.args.span (map ahead_as fs)) (λ v made. made ∙ is) c.drawn_text.ensures
