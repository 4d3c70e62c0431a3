use Rattle.std.proofs.Common.{◌≡◌, drop}
use Rattle.std.specs.Prelude.{fold, max}
use Rattle.recorded_table.proofs.spread.greatest_of.Given as goal

abbrev pub invariant-loop-n : goal.invariant-loop-n
invariant-loop-n l = fold max l.greatest (drop l.n-index l.others) ≡ fold max l.first l.others
