use Rattle.draft.proofs.CallerLemmas.{joined}
use Rattle.chart.proofs.chart.put_counts.Goals as goal

pub returns : goal.returns
returns c =
    joined c.args.out.now c.put_with.new.out c.put_with-2.new.out _ _ c.put_with.ensures c.put_with-2.ensures
