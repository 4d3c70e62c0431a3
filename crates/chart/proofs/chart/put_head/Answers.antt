use Rattle.std.proofs.Common.{ap}
use Rattle.draft.proofs.CallerLemmas.{joined4, as_text}
use Rattle.chart.proofs.chart.put_head.Goals as goal

pub returns : goal.returns
returns c =
    joined4 c.args.out.now c.put_opening.new.out c.put_chart_title.new.out c.put.new.self c.put_background.new.out _ _ _ _
    c.put_opening.ensures
    c.put_chart_title.ensures
    (as_text c.put_chart_title.new.out c.put.new.self _ _ (ap (λ t. t) c.style.ensures) c.put.ensures)
    c.put_background.ensures
