use Rattle.std.proofs.Common.{ℕ, map, Option, sym, ap, ◌∙◌, subst}
use Rattle.std.proofs.Math.ListN.{set}
use Rattle.std.proofs.lemmas.List.{map-id}
use Rattle.chart_pieces.specs.private.LineView.{ChartLineView}
use Rattle.chart_pieces.specs.private.Lines.{with_stop, with_stop_of, AreDrawn}
use Rattle.chart_pieces.proofs.Turning.{turned_place, turned_none, place_inside}
use Rattle.chart_pieces.proofs.lines.put_stop.Goals as goal

pub returns-in_default : goal.returns-in_default
returns-in_default c =
    sym (map-id c.args.table.now.items)
    ∙ ap (λ (o : Option ℕ). map (with_stop_of o c.args.window.now c.args.switch.now) c.args.table.now.items) (sym c.in_default.is)

pub returns-in-Some-find : goal.returns-in-Some-find
returns-in-Some-find c =
    let items = c.args.table.now.items in
    ap (λ (x : ChartLineView). set items c.in-Some-find.place x) c.stop_line.ensures
    ∙ turned_place (λ (l : ChartLineView). l.number) c.in-Some.number (with_stop c.args.window.now c.args.switch.now) items c.args.places.now c.in-Some-find.place c.index_mut.result.now c.requires.keyed c.find.ensures.apart c.in-Some-find.ensures.found c.index_mut.ensures.value
    ∙ ap (λ (o : Option ℕ). map (with_stop_of o c.args.window.now c.args.switch.now) items) (sym c.in-Some.is)

pub returns-in_default-find : goal.returns-in_default-find
returns-in_default-find c =
    let items = c.args.table.now.items in
    turned_none (λ (l : ChartLineView). l.number) c.in-Some.number (with_stop c.args.window.now c.args.switch.now) items c.args.places.now c.requires.keyed c.in_default-find.ensures.absent
    ∙ ap (λ (o : Option ℕ). map (with_stop_of o c.args.window.now c.args.switch.now) items) (sym c.in-Some.is)

pub stop_line-requires : goal.stop_line-requires
stop_line-requires c =
    let items = c.args.table.now.items in
    let place = c.in-Some-find.place in
    record {
      drawn = subst (λ (l : ChartLineView). AreDrawn c.args.window.now c.args.switch.now.time l.bars) (sym c.index_mut.ensures.value)
          (c.requires.drawn place c.index_mut.result.now (place_inside (λ (l : ChartLineView). l.number) c.in-Some.number items c.args.places.now place c.requires.keyed c.in-Some-find.ensures.found));
    }
