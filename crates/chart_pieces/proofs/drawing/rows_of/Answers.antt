use Rattle.std.proofs.Common.{ap, ◌∙◌, subst, All}
use Rattle.std.specs.Prelude.{IfOk}
use Rattle.chart_pieces.specs.declared.window.Window.{Window}
use Rattle.chart_pieces.specs.Drawing.{DrawingView, drawn_on}
use Rattle.chart_pieces.specs.Laws.{AreSeen}
use Rattle.chart_pieces.proofs.drawing.rows_of.Goals as goal

pub returns-clause-seen : goal.returns-clause-seen
returns-clause-seen c =
    let run = c.args.run.now in
    let streamed = c.stream.ensures ∙ ap (λ (d : DrawingView). drawn_on d run.happened.now run.switches.now) c.in_ok-drawing.ensures in
    subst (λ (w : Window). IfOk c.rows.result (λ v. All (AreSeen w) v.items)) (ap (λ (d : DrawingView). d.window) streamed) c.rows.ensures.seen
