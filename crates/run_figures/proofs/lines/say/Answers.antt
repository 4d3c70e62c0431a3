use Rattle.std.proofs.Common.{◌∙◌, ap}
use Rattle.std.proofs.Math.ListN.{set}
use Rattle.run_figures.specs.private.LineView.{JobLineView}
use Rattle.run_figures.specs.private.Lines.{line_after}
use Rattle.run_figures.proofs.Turning.{turned_place, turned_none, on_ok}
use Rattle.run_figures.proofs.lines.say.Goals as goal

pub returns-in-None : goal.returns-in-None
returns-in-None c =
    let h = c.args.happened.now in
    turned_none (λ (l : JobLineView). l.number) h.number (line_after h) c.args.table.now.items c.args.places.now c.requires.keyed c.in-None.ensures.absent

pub returns-in-Some : goal.returns-in-Some
returns-in-Some c =
    let h = c.args.happened.now in
    on_ok c.log_line.result _ _
    (λ e. ap (λ (x : JobLineView). set c.args.table.now.items c.in-Some.place x) e
    ∙ turned_place (λ (l : JobLineView). l.number) h.number (line_after h) c.args.table.now.items c.args.places.now c.in-Some.place c.index_mut.result.now c.requires.keyed c.find.ensures.apart c.in-Some.ensures.found c.index_mut.ensures.value)
    c.log_line.ensures
