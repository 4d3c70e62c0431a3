use Rattle.compare_report.proofs.Counting.{quantile_at}
use Rattle.compare_report.proofs.quantiles.quantile.Goals as goal

pub returns : goal.returns
returns c = quantile_at c.args.hundredths c.args.values.now c.last_place.result c.requires.rising c.last_place.ensures.there c.last_place.ensures.enough c.last_place.ensures.least
