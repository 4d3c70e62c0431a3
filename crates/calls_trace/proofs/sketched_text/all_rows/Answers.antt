use Rattle.std.proofs.Common.{◌≡◌, ◌++◌, List, append-nil, map, sym, ap, subst, ◌∙◌, arith}
use Rattle.std.specs.Prelude.{All}
use Rattle.std.proofs.lemmas.List.{drop_all}
use Rattle.chart_pieces.specs.declared.window.Window.{Window}
use Rattle.chart.specs.Rows as charts
use Rattle.calls_trace.specs.declared.sketch.Sketch.{Sketch}
use Rattle.calls_trace.specs.private.Sketched.{charted_from, sketch_as}
use Rattle.calls_trace.proofs.Sketches.{rows_more}
use Rattle.calls_trace.proofs.sketched_text.all_rows.Goals as goal

pub loop-one-preserved : goal.loop-one-preserved
loop-one-preserved c =
    let i = c.loop-one.invariant in
    let k = c.loop-one.one-index in
    let one = c.one-item.result in
    let was = c.loop-one.all.items in
    let is = c.push_rows.new.all.items in
    record {
      rows = rows_more c.args.sketches.now k c.loop-one.base one (map charts.chart_row_view_of was) (map charts.chart_row_view_of is) (charted_from 0 (map sketch_as c.args.sketches.now)) c.loop-one-test.true c.one-item.is i.rows c.in_ok-push_rows.ensures.rows;
      drawn = λ w same.
          let e : one.window ≡ w = ap (λ (s : Sketch). s.window) c.one-item.is ∙ same k one c.loop-one-test.true in
          subst (λ (x : Window). All (charts.IsDrawn x) is) e (c.in_ok-push_rows.ensures.drawn (subst (λ (x : Window). All (charts.IsDrawn x) was) (sym e) (i.drawn w same)));
      few = omega (arith, i.few, c.in_ok-push_rows.ensures.few);
      inside = omega (arith, i.inside, one.machine);
    }

pub returns-clause-rows : goal.returns-clause-rows
returns-clause-rows c =
    let all = map charts.chart_row_view_of c.loop-one.all.items in
    sym (append-nil all)
    ∙ ap (λ (ss : List Sketch). all ++ charted_from c.loop-one.base (map sketch_as ss)) (sym (drop_all c.loop-one.one-index c.args.sketches.now c.loop-one-test.false))
    ∙ c.loop-one.invariant.rows
