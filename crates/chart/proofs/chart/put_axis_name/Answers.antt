use Rattle.draft.proofs.CallerLemmas.{joined4, as_text}
use Rattle.chart.proofs.chart.put_axis_name.Goals as goal

pub returns : goal.returns
returns c =
    joined4 c.args.out.now c.put_text_at.new.out c.put.new.self c.put-2.new.self c.put-3.new.self _ _ _ _
    c.put_text_at.ensures
    c.put.ensures
    (as_text c.put.new.self c.put-2.new.self _ _ c.unit_name.ensures c.put-2.ensures)
    c.put-3.ensures
