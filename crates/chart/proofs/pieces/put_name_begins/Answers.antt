use Rattle.std.proofs.Common.{◌+◌, ap}
use Rattle.std.specs.Prelude.{codes}
use Rattle.chart.specs.Pieces.{text_with_number}
use Rattle.draft.proofs.CallerLemmas.{joined3, as_text}
use Rattle.chart.proofs.pieces.put_name_begins.Goals as goal

pub returns : goal.returns
returns c =
    joined3 c.args.out.now c.put_with.new.out c.put.new.self c.put_name_size.new.out _ _ _
    (as_text c.args.out.now c.put_with.new.out _ _ (ap (λ top. text_with_number (codes "<text x=\"142\" y=\"") (15 + (top + c.args.sheet.now.size.foot))) c.row_top.ensures.top) c.put_with.ensures)
    c.put.ensures
    c.put_name_size.ensures
