use Rattle.std.proofs.Common.{◌+◌, ap}
use Rattle.chart.specs.Chart.{label}
use Rattle.draft.proofs.CallerLemmas.{joined, as_text}
use Rattle.chart.proofs.chart.put_labels.Goals as goal

pub returns : goal.returns
returns c =
    joined c.args.out.now c.put_label.new.out c.put_label-2.new.out _ _ c.put_label.ensures
    (as_text c.put_label.new.out c.put_label-2.new.out _ _ (ap (λ end. label c.args.sheet.now (end + 16) c.args.time) c.plot_end.ensures.end) c.put_label-2.ensures)
