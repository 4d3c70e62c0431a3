use Rattle.draft.proofs.CallerLemmas.{joined3}
use Rattle.chart.proofs.pieces.put_bar_title.Goals as goal

pub returns : goal.returns
returns c =
    joined3 c.args.out.now c.put_title.new.out c.put_bar_said.new.out c.put.new.self _ _ _
    c.put_title.ensures
    c.put_bar_said.ensures
    c.put.ensures
