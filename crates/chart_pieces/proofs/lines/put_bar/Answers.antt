use Rattle.std.proofs.Common.{ℕ, map, sym, ap, ◌∙◌}
use Rattle.std.specs.Prelude.{Option}
use Rattle.std.proofs.Math.ListN.{set}
use Rattle.std.proofs.lemmas.List.{map-id}
use Rattle.chart_pieces.specs.private.LineView.{ChartLineView}
use Rattle.chart_pieces.specs.private.Lines.{with_bar, with_bar_of}
use Rattle.chart_pieces.proofs.Turning.{turned_place, turned_none, on_ok}
use Rattle.chart_pieces.proofs.lines.put_bar.Goals as goal

pub returns-in_default : goal.returns-in_default
returns-in_default c =
    sym (map-id c.args.table.now.items)
    ∙ ap (λ (o : Option ℕ). map (with_bar_of o c.args.window.now c.args.switch.now c.args.end) c.args.table.now.items) (sym (sym c.next.ensures ∙ c.in_default.is))

pub returns-in-None : goal.returns-in-None
returns-in-None c =
    let items = c.args.table.now.items in
    turned_none (λ (l : ChartLineView). l.number) c.in-Some.number (with_bar c.args.window.now c.args.switch.now c.args.end) items c.args.places.now c.requires.keyed c.in-None.ensures.absent
    ∙ ap (λ (o : Option ℕ). map (with_bar_of o c.args.window.now c.args.switch.now c.args.end) items) (sym (sym c.next.ensures ∙ c.in-Some.is))

pub returns-in-Some-find : goal.returns-in-Some-find
returns-in-Some-find c =
    let items = c.args.table.now.items in
    on_ok c.push_bar.result _ _
    (λ e. ap (λ (x : ChartLineView). set items c.in-Some-find.place x) e
    ∙ turned_place (λ (l : ChartLineView). l.number) c.in-Some.number (with_bar c.args.window.now c.args.switch.now c.args.end) items c.args.places.now c.in-Some-find.place c.index_mut.result.now c.requires.keyed c.find.ensures.apart c.in-Some-find.ensures.found c.index_mut.ensures.value
    ∙ ap (λ (o : Option ℕ). map (with_bar_of o c.args.window.now c.args.switch.now c.args.end) items) (sym (sym c.next.ensures ∙ c.in-Some.is)))
    c.push_bar.ensures
