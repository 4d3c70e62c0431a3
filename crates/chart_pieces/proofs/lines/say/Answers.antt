use Rattle.std.proofs.Common.{◌∙◌, ap}
use Rattle.std.proofs.Math.ListN.{set}
use Rattle.chart_pieces.specs.private.LineView.{ChartLineView}
use Rattle.chart_pieces.specs.private.Lines.{bars_after}
use Rattle.chart_pieces.proofs.Turning.{turned_place, turned_none, on_ok}
use Rattle.chart_pieces.proofs.lines.say.Goals as goal

pub returns-in-None : goal.returns-in-None
returns-in-None c =
    let m = c.args.moment.now in
    turned_none (λ (l : ChartLineView). l.number) m.number (bars_after c.args.window.now m) c.args.table.now.items c.args.places.now c.requires.keyed c.in-None.ensures.absent

pub returns-in-Some : goal.returns-in-Some
returns-in-Some c =
    let m = c.args.moment.now in
    on_ok c.log_line.result _ _
    (λ e. ap (λ (x : ChartLineView). set c.args.table.now.items c.in-Some.place x) e
    ∙ turned_place (λ (l : ChartLineView). l.number) m.number (bars_after c.args.window.now m) c.args.table.now.items c.args.places.now c.in-Some.place c.index_mut.result.now c.requires.keyed c.find.ensures.apart c.in-Some.ensures.found c.index_mut.ensures.value)
    c.log_line.ensures
