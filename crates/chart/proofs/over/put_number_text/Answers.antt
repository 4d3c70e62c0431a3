use Rattle.std.proofs.Common.{ap}
use Rattle.chart.specs.Pieces.{number_ink, number_end}
use Rattle.draft.proofs.CallerLemmas.{joined3, as_text}
use Rattle.chart.proofs.over.put_number_text.Goals as goal

pub returns : goal.returns
returns c =
    joined3 c.args.out.now c.put_number_place.new.out c.put_number_ink.new.out c.put_number_end.new.out _ _ _
    c.put_number_place.ensures
    (as_text c.put_number_place.new.out c.put_number_ink.new.out _ _ (ap (λ n. number_ink c.args.sheet.now n) c.cpu_of.ensures.cpu) c.put_number_ink.ensures)
    (as_text c.put_number_ink.new.out c.put_number_end.new.out _ _ (ap number_end c.cpu_of-2.ensures.cpu) c.put_number_end.ensures)
