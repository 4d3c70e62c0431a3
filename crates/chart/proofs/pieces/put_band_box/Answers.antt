use Rattle.std.proofs.Common.{◌+◌, ap}
use Rattle.std.specs.Prelude.{codes}
use Rattle.chart.specs.Pieces.{text_with_number}
use Rattle.draft.proofs.CallerLemmas.{joined3, as_text}
use Rattle.chart.proofs.pieces.put_band_box.Goals as goal

pub returns : goal.returns
returns c =
    joined3 c.args.out.now c.put_with.new.out c.put_with-2.new.out c.put.new.self _ _ _
    (as_text c.args.out.now c.put_with.new.out _ _ (ap (λ top. text_with_number (codes "<rect x=\"0\" y=\"") (15 + top)) c.row_top.ensures.top) c.put_with.ensures)
    c.put_with-2.ensures
    c.put.ensures
