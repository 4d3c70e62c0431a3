use Rattle.std.proofs.Common.{ap}
use Rattle.chart.specs.Pieces.{text_at}
use Rattle.draft.proofs.CallerLemmas.{joined4, as_text}
use Rattle.chart.proofs.chart.put_label.Goals as goal

pub returns : goal.returns
returns c =
    joined4 c.args.out.now c.put_text_at.new.out c.put.new.self c.put_axis_time.new.out c.put-2.new.self _ _ _ _
    (as_text c.args.out.now c.put_text_at.new.out _ _ (ap (λ x. text_at x c.args.top) c.pixel_of.ensures) c.put_text_at.ensures)
    c.put.ensures
    c.put_axis_time.ensures
    c.put-2.ensures
