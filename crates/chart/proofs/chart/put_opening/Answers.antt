use Rattle.std.proofs.Common.{ap}
use Rattle.std.specs.Prelude.{codes}
use Rattle.chart.specs.Pieces.{text_with_number}
use Rattle.draft.proofs.CallerLemmas.{joined, as_text}
use Rattle.chart.proofs.chart.put_opening.Goals as goal

pub returns : goal.returns
returns c =
    joined c.args.out.now c.put_with.new.out c.put.new.self _ _
    (as_text c.args.out.now c.put_with.new.out _ _ (ap (λ h. text_with_number (codes "<svg xmlns=\"http://www.w3.org/2000/svg\" viewBox=\"0 0 1200 ") h) c.chart_height.ensures) c.put_with.ensures)
    c.put.ensures
