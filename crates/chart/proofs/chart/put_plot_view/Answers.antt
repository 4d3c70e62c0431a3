use Rattle.std.proofs.Common.{ap}
use Rattle.std.specs.Prelude.{codes}
use Rattle.chart.specs.Pieces.{text_with_number}
use Rattle.draft.proofs.CallerLemmas.{joined4, as_text}
use Rattle.chart.proofs.chart.put_plot_view.Goals as goal

pub returns : goal.returns
returns c =
    joined4 c.args.out.now c.put_with.new.out c.put_with-2.new.out c.put_with-3.new.out c.put.new.self _ _ _ _
    c.put_with.ensures
    c.put_with-2.ensures
    (as_text c.put_with-2.new.out c.put_with-3.new.out _ _ (ap (λ h. text_with_number (codes " ") h) c.plot_height.ensures.height) c.put_with-3.ensures)
    c.put.ensures
