use Rattle.std.proofs.Common.{ap}
use Rattle.std.specs.Prelude.{codes}
use Rattle.chart.specs.Pieces.{text_with_number}
use Rattle.draft.proofs.CallerLemmas.{as_text}
use Rattle.chart.proofs.chart.put_plot_size.Goals as goal

pub returns : goal.returns
returns c =
    as_text c.args.out.now c.put_with.new.out _ _
    (ap (λ h. text_with_number (codes "<svg x=\"150\" y=\"15\" width=\"1020\" height=\"") h) c.plot_height.ensures.height)
    c.put_with.ensures
