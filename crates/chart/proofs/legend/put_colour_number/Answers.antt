use Rattle.std.proofs.Common.{◌+◌, ap, ◌∙◌}
use Rattle.chart.specs.Pieces.{text_at}
use Rattle.chart.specs.Legend.{colour_left}
use Rattle.draft.proofs.CallerLemmas.{joined3, as_text}
use Rattle.chart.proofs.legend.put_colour_number.Goals as goal

pub returns : goal.returns
returns c =
    joined3 c.args.out.now c.put_text_at.new.out c.put_number_ink.new.out c.put_colour_end.new.out _ _ _
    (as_text c.args.out.now c.put_text_at.new.out _ _ (ap (λ left. text_at (left + 11) (c.plot_end.result + 43)) c.colour_left.ensures.left ∙ ap (λ end. text_at (colour_left c.args.place + 11) (end + 43)) c.plot_end.ensures.end) c.put_text_at.ensures)
    c.put_number_ink.ensures
    c.put_colour_end.ensures
