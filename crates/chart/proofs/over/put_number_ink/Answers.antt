use Rattle.draft.proofs.CallerLemmas.{joined, as_text}
use Rattle.chart.proofs.over.put_number_ink.Goals as goal

pub returns : goal.returns
returns c =
    joined c.args.out.now c.put.new.self c.put-2.new.self _ _ c.put.ensures
    (as_text c.put.new.self c.put-2.new.self _ _ c.ink_of.ensures c.put-2.ensures)
