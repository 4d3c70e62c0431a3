use Rattle.std.proofs.Common.{◌≡◌, ℕ, List, length, get_or, map, sym, ap, subst, ◌∙◌, ◌++◌, append-nil, arith}
use Rattle.std.specs.Prelude.{All}
use Rattle.std.proofs.lemmas.List.{length_push, take_all}
use Rattle.std.proofs.lemmas.List.Elements.{All-push}
use Rattle.chart_pieces.specs.RowView.{RowView}
use Rattle.switch_text.specs.Names.{name_of_task}
use Rattle.chart.specs.Rows.{ChartRowView, chart_row_view_of, IsDrawn}
use Rattle.calls_trace.specs.Charted.{chart_row_of}
use Rattle.calls_trace.specs.private.Sketched.{row_in}
use Rattle.calls_trace.proofs.Charts.{row_more}
use Rattle.calls_trace.proofs.Sketches.{place_inside, place_is}
use Rattle.calls_trace.proofs.Texts.{both}
use Rattle.calls_trace.proofs.sketch.Sketch.push_rows.Goals as goal

pub loop-place-init : goal.loop-place-init
loop-place-init c =
    let old = c.args.all.now.items in
    let same : c.try_reserve.new.self.items ≡ old = c.try_reserve.ensures.items in
    let w = c.args.self.now.window in
    record {
      rows = ap (map chart_row_view_of) same ∙ sym (append-nil (map chart_row_view_of old));
      drawn = λ was. subst (All (IsDrawn w)) (sym same) was;
      count = omega (arith, ap length same);
      room = omega (arith, c.in_ok-try_reserve.ensures.ok, c.try_reserve.ensures.len, c.len.ensures, c.args.all.now.ok.0, c.args.self.now.places.ok.0, ap length c.deref-place-items.ensures.value);
    }

pub charted-requires : goal.charted-requires
charted-requires c =
    let s = c.args.self.now in
    record { inside = place_inside s.rows.items s.places.items c.deref-place-items.result.now c.loop-place.place-index c.deref-place-items.ensures.value c.loop-place-test.true s.inside }

pub loop-place-preserved : goal.loop-place-preserved
loop-place-preserved c =
    let i = c.loop-place.invariant in
    let k = c.loop-place.place-index in
    let s = c.args.self.now in
    let was = c.loop-place.all.items in
    let lent = c.deref-place-items.result.now in
    let one = c.charted.result in
    let is = c.push_reserved.ensures.items in
    record {
      rows = ap (map chart_row_view_of) is ∙ row_more chart_row_view_of (λ p. chart_row_of (name_of_task s.names) c.args.base (row_in s.rows.items p)) (map chart_row_view_of c.args.all.now.items) was one lent k (get_or lent k 0) c.loop-place-test.true (place_is lent k c.loop-place-test.true) c.charted.ensures.row i.rows;
      drawn = λ before. subst (All (IsDrawn s.window)) (sym is) (All-push (IsDrawn s.window) was one (i.drawn before) c.charted.ensures.drawn);
      count = omega (arith, i.count, ap length is, length_push was one);
      room = omega (arith, i.room, c.push_reserved.ensures.capacity);
    }

pub returns-clause-rows : goal.returns-clause-rows
returns-clause-rows c =
    let s = c.args.self.now in
    let row : RowView → ChartRowView = chart_row_of (name_of_task s.names) c.args.base in
    let old = map chart_row_view_of c.args.all.now.items in
    c.loop-place.invariant.rows
    ∙ ap (λ (ps : List ℕ). old ++ map (λ p. row (row_in s.rows.items p)) ps) (take_all c.loop-place.place-index c.deref-place-items.result.now c.loop-place-test.false ∙ c.deref-place-items.ensures.value)
    ∙ ap (λ (rs : List ChartRowView). old ++ rs) (both (row_in s.rows.items) row s.places.items)
