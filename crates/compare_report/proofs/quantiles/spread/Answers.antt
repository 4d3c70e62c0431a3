use Rattle.std.proofs.lemmas.List.Sorted.{IsNonDecreasingBy-from_sort}
use Rattle.compare_report.proofs.Counting.{spread_reordered}
use Rattle.compare_report.proofs.quantiles.spread.Goals as goal

pub spread_of-requires-clause-rising : goal.spread_of-requires-clause-rising
spread_of-requires-clause-rising c = IsNonDecreasingBy-from_sort (λ x. x) c.sort_unstable.new.self c.sort_unstable.ensures.sorted

pub returns-clause-some : goal.returns-clause-some
returns-clause-some c = spread_reordered c.args.distances.now c.sort_unstable.new.self c.spread_of.result c.sort_unstable.ensures.permutation c.spread_of.ensures

pub returns-clause-rising : goal.returns-clause-rising
returns-clause-rising c = IsNonDecreasingBy-from_sort (λ x. x) c.sort_unstable.new.self c.sort_unstable.ensures.sorted
