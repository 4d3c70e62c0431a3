use Rattle.std.proofs.Common.{◌+◌, ap}
use Rattle.std.specs.Prelude.{codes}
use Rattle.chart.specs.Pieces.{text_with_number}
use Rattle.draft.proofs.CallerLemmas.{joined, as_text}
use Rattle.chart.proofs.legend.put_colour_title.Goals as goal

pub returns : goal.returns
returns c =
    joined c.args.out.now c.put_with.new.out c.put.new.self _ _
    (as_text c.args.out.now c.put_with.new.out _ _ (ap (λ end. text_with_number (codes "<text x=\"142\" y=\"") (end + 43)) c.plot_end.ensures.end) c.put_with.ensures)
    c.put.ensures
